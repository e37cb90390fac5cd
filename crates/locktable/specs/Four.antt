-- A record as the log keeps it. Assumes nothing.
use Rattle.std.specs.Prelude.{ℕ, List, [], ◌∷◌}
use Rattle.refusals.specs.declared.Record.{Record}

-- Document 01: "A record is four bytes: kind .., thread, argument .., and 0", whatever the last one is.
abbrev pub four_of : Record → List ℕ
four_of e = e.kind ∷ (e.thread ∷ (e.argument ∷ (e.zero ∷ [])))
