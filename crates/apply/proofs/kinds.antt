-- Laws of the dispatch by kind.
mod Ready
mod Arms
