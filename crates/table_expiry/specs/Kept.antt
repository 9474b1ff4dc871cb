-- The rules of "Well formed" that go for peers, in its order. An image's peers are held to them, and every table keeps them.
use Rattle.std.specs.Prelude.{ℕ, ◌≡◌, Bool, true, cond, not, ◌&&◌, List, [], ◌∷◌, leb, eqb}
use Rattle.base_mi.specs.declared.Mi.{Mi}
use Rattle.base_mi.specs.Mi.{mi_same}
use Rattle.table.specs.declared.Peer.{Peer}
use Rattle.table.specs.declared.Table.{Table}
use Rattle.law_lists.specs.Lists.{every}
use Rattle.table.specs.Table.{entries, table_of}
use Rattle.table_expiry.specs.Expiry.{fresh_at, fresh_peer}

-- Where the one holds, the other does.
abbrev pub only : Bool → Bool → Bool
only a b = cond a b true

-- "no proof means proof time 0"
abbrev pub unproven_zero : Peer → Bool
unproven_zero p = only (not p.proven) (eqb p.proof 0)

-- "times not after the clock"
abbrev pub timely : ℕ → Peer → Bool
timely clock p = leb p.accepted clock && leb p.proof clock

-- "accepted .. under 6,000 ms old" is `fresh_peer`; "and proof", where there is one
abbrev pub fresh_proof : ℕ → Peer → Bool
fresh_proof clock p = only p.proven (fresh_at clock p.proof)

-- "proof not after accepted"
abbrev pub ordered : Peer → Bool
ordered p = only p.proven (leb p.proof p.accepted)

-- An identifier is none of the entries'.
abbrev pub absent : Mi → List Peer → Bool
absent m l = every (λ (p : Peer). not (mi_same m p.mi)) l

-- "distinct"
abbrev pub distinct : List Peer → Bool
distinct [] = true
distinct (p ∷ ps) = absent p.mi ps && distinct ps

-- "MN not 0"
abbrev pub has_number : Peer → Bool
has_number p = not (eqb p.mn 0)

-- All of them, each over the whole list; "not ours": ours is the MI `own`.
unfoldable pub peer_rules : Mi → ℕ → List Peer → Bool
peer_rules own clock l =
    every unproven_zero l
    && (every (timely clock) l
    && (every (fresh_peer clock) l
    && (every (fresh_proof clock) l
    && (every ordered l
    && (distinct l
    && (absent own l
    && every has_number l))))))

-- Slots past the count are blank, and the count is at most 16.
abbrev pub Tidy : Table → Type 0
Tidy t = t ≡ table_of (entries t)

-- What every table keeps. That its entries are at most 16 is so of any table.
pub record Kept (own : Mi) (clock : ℕ) (t : Table) : Type 0 where
  pub tidy : Tidy t
  pub rules : peer_rules own clock (entries t) ≡ true
