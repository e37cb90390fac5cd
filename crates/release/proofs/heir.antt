-- Who follows at a V.
mod Place
mod Found
