-- When an identifier was last proved, of what looking it up gave.
use Rattle.std.specs.Prelude.{ℕ, Bool, true, false, cond, Option, Some, None}
use Rattle.table_lookup.specs.declared.Held.{Held}
use Rattle.table_expiry.specs.Expiry.{fresh_at}

-- When the identifier that was looked up was last proved.
abbrev pub proved_at : Option Held → Option ℕ
proved_at (Some h) = cond h.peer.proven (Some h.peer.proof) None
proved_at None = None

-- A proof as it stands at a time.
abbrev pub aged_proof : ℕ → Option ℕ → Option ℕ
aged_proof time None = None
aged_proof time (Some at) = cond (fresh_at time at) (Some at) None

abbrev pub is_some : Option ℕ → Bool
is_some None = false
is_some (Some at) = true
