-- "Recent (here): not 0, not above the last sent, and one of the last four sent", of the numbers that a history sent.
-- Proved in RecentArgument.
use Rattle.std.specs.Prelude.{ℕ, zero, suc, ◌≡◌, true, ◌↔◌, take}
use mathlib.Core.List.{List, [], ◌∷◌, Memᴰ}
use Rattle.call_hearing.specs.Proof.{window, is_recent}
use Rattle.law_history.specs.Calls.{Creation, Call, after, numbers_sent}

-- A number is recent if it is one of the last so many of the numbers sent, which stand newest first.
abbrev pub Recent : ℕ → ℕ → List ℕ → Type 0
Recent many n numbers = Memᴰ n (take many numbers)

-- n, n - 1, .. 1
abbrev pub countdown : ℕ → List ℕ
countdown zero = []
countdown (suc n) = suc n ∷ countdown n

-- The numbers sent begin at 1 and each is the next, so one of them is not 0 and not above the last sent. MN is the last.
abbrev pub NumbersCount : Type 0
NumbersCount = (k : Creation) (cs : List Call) → numbers_sent k cs ≡ countdown (after k cs).mn

-- What the library takes for recent, by MN, is recent by the history.
abbrev pub RecentExactly : Type 0
RecentExactly = (k : Creation) (cs : List Call) (n : ℕ) → (is_recent n (after k cs).mn ≡ true) ↔ Recent window n (numbers_sent k cs)
