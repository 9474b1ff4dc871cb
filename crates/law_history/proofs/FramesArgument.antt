-- Why: MN is the last of the numbers sent, and the participant's identifier is the history's.
use Rattle.std.specs.Prelude.{ℕ, zero, suc, ◌+◌, ◌≡◌, refl, length}
use Rattle.std.proofs.Common.{ap, sym, ◌∙◌}
use Rattle.law_history.specs.Calls.{after, numbers_sent}
use Rattle.law_history.proofs.Splits.{own}
use Rattle.law_history.proofs.Written.{number-sent, identifier-sent}
use Rattle.law_history.specs.Recent.{countdown}
use Rattle.law_history.proofs.RecentArgument.{counts, numbers-count}
use Rattle.law_history.specs.Frames.{NextNumber, IdentifierOurs}

length-countdown : (n : ℕ) → length (countdown n) ≡ n
length-countdown zero = refl
length-countdown (suc n) = ap suc (length-countdown n)

pub next-number : NextNumber
next-number k cs time latest_pn old_pn out made =
    let earlier = made.earlier in
    let many : length (numbers_sent k earlier) ≡ (after k earlier).mn = ap length (numbers-count k earlier) ∙ length-countdown (after k earlier).mn in
    number-sent (after k earlier) time latest_pn old_pn out (counts k earlier).0 made.done ∙ ap (λ (n : ℕ). n + 1) (sym many)

pub identifier-ours : IdentifierOurs
identifier-ours k ok cs time latest_pn old_pn out made fits =
    let ours = own k ok made.earlier in
    identifier-sent (after k made.earlier) time latest_pn old_pn out (rw ours fits) made.done ∙ ours
