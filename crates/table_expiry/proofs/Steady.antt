-- Whether something expires, asked of one entry after the other by one comparison for each time.
use Rattle.std.specs.Prelude.{ℕ, ◌-◌, ◌≡◌, refl, Bool, true, false, not, ◌&&◌, ◌||◌, List, [], ◌∷◌, leb}
use Rattle.std.proofs.Common.{arith}
use borrow.Author.Tests.{lt-ltb, le-ltb, leb-true, leb-false}
use Rattle.table.specs.declared.Peer.{Peer}
use Rattle.law_lists.specs.Lists.{every}
use Rattle.table_expiry.specs.Expiry.{life_time, fresh_at, still_peer, steady_in, oldest_at, still_from}
use Rattle.law_lists.proofs.Laws.{by_cases}

-- less than a life time old is not from before the oldest such time
pub fresh-from : (time at : ℕ) → leb (oldest_at time) at ≡ fresh_at time at
fresh-from time at =
    by_cases (leb (oldest_at time) at)
    (λ e. rw (e, lt-ltb (time - at) life_time (omega (arith, leb-true (oldest_at time) at e))))
    (λ e. rw (e, le-ltb (time - at) life_time (omega (arith, leb-false (oldest_at time) at e))))

pub still-from : (time : ℕ) (p : Peer) → still_from (oldest_at time) p ≡ still_peer time p
still-from time p =
    by_cases p.proven
    (λ e. rw (e, fresh-from time p.accepted, fresh-from time p.proof) (by_cases (fresh_at time p.proof) (λ f. rw f) (λ f. rw f)))
    (λ e. rw (e, fresh-from time p.accepted))

pub steady-from : (time : ℕ) (l : List Peer) → every (still_from (oldest_at time)) l ≡ steady_in time l
steady-from time [] = refl
steady-from time (p ∷ l) = rw (still-from time p, steady-from time l)

-- nothing has expired so far, nor does of those left
abbrev pub steady_so_far : ℕ → Bool → List Peer → Bool
steady_so_far time expires left = not expires && steady_in time left

-- one turn of a loop that looks for one that expires
pub steady-turn : (time : ℕ) (expires : Bool) (p : Peer) (left : List Peer)
    → steady_so_far time (expires || not (still_from (oldest_at time) p)) left ≡ steady_so_far time expires (p ∷ left)
steady-turn time true p left = refl
steady-turn time false p left = rw (still-from time p) (by_cases (still_peer time p) (λ e. rw e) (λ e. rw e))

pub steady-end : (time : ℕ) (expires : Bool) → steady_so_far time expires [] ≡ not expires
steady-end time true = refl
steady-end time false = refl
