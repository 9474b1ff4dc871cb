-- Facts 6 and 7.
use Rattle.std.specs.Prelude.{ℕ, ◌+◌, List, [], ◌∷◌, Bool, true, not, ◌&&◌, length, get_or, eqb}
use Rattle.base_facts.specs.Numbers.{agility}
use Rattle.frame.specs.declared.Basic.{Basic}

-- The octets xs stand at `at`.
unfoldable pub same_at : List ℕ → ℕ → List ℕ → Bool
same_at s at [] = true
same_at s at (x ∷ xs) = eqb (get_or s at 0) x && same_at s (at + 1) xs

-- 6: "CKN not ours": by length and octets; padding is not looked at.
unfoldable pub fact6 : List ℕ → Basic → List ℕ → Bool
fact6 s b ckn = not (eqb b.size (length ckn) && same_at s 36 ckn)

-- 7: "agility not 00-80-C2-01"
abbrev pub fact7 : Basic → Bool
fact7 b = not (eqb b.agility agility)
