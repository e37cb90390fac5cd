-- A precedence as one number. Assumes nothing.
use Rattle.std.specs.Prelude.{ℕ, ◌+◌, ◌*◌, ◌-◌}
use Rattle.protocol.specs.Events.{Precedence}

-- For times up to N the greater number is the higher precedence. With N = 65,535 it is the number that the table compares.
abbrev pub rank : ℕ → Precedence → ℕ
rank N p = p.0 * (N + 1) + (N - p.1)
