-- Where identifiers are distinct an entry is found by its own, and it alone.
use Rattle.std.specs.Prelude.{ℕ, ◌+◌, ◌≡◌, refl, true, not, Some, None}
use Rattle.std.proofs.Common.{ap, sym, ◌∙◌, ⊎_elim}
use mathlib.Core.List.Memᴰ
use mathlib.Core.List.{List, [], ◌∷◌, Memᴰ}
use Rattle.std.proofs.lemmas.Bool.{not-true}
use Rattle.base_mi.specs.declared.Mi.{Mi}
use Rattle.base_mi.specs.Mi.{mi_same}
use Rattle.table.specs.declared.Peer.{Peer}
use Rattle.table.specs.declared.Table.{Table}
use Rattle.table_lookup.specs.declared.Held.{Held}
use Rattle.table.specs.Table.{entries}
use Rattle.table_lookup.specs.Look.{seek, held_in}
use Rattle.table_expiry.specs.Kept.{absent, distinct}
use Rattle.law_lists.proofs.Laws.{by_cases, clash, never, first-of, second-of, every-mem}
use Rattle.law_kept.specs.Same.{same-eq, same_refl}

-- none of the entries has an absent identifier
pub absent-clash {ℓ} : {C : Type ℓ} (m : Mi) (l : List Peer) (p : Peer) → absent m l ≡ true → Memᴰ p l → m ≡ p.mi → C
absent-clash m l p a v s =
    let f = not-true (mi_same m p.mi) (every-mem (λ (q : Peer). not (mi_same m q.mi)) l a v) in
    clash (sym f ∙ ap (mi_same m) (sym s) ∙ same_refl m)

-- what is found is one entry
pub found-same : {h g : Held} → Some h ≡ Some g → h ≡ g
found-same e = cc

pub seek-absent : (m : Mi) (k : ℕ) (l : List Peer) → absent m l ≡ true → seek m k l ≡ None
seek-absent m k [] e = refl
seek-absent m k (p ∷ l) e =
    let a = not-true (mi_same m p.mi) (first-of (not (mi_same m p.mi)) (absent m l) e) in
    rw a (seek-absent m (k + 1) l (second-of (not (mi_same m p.mi)) (absent m l) e))

-- one entry has an identifier
pub distinct-one : (l : List Peer) (p q : Peer) → distinct l ≡ true → Memᴰ p l → Memᴰ q l → p.mi ≡ q.mi → p ≡ q
distinct-one [] p q d m n e = absurd (Memᴰ.not-nil m)
distinct-one (x ∷ l) p q d m n e =
    let a = first-of (absent x.mi l) (distinct l) d in
    ⊎_elim
    (λ s. ⊎_elim (λ u. s ∙ sym u) (λ v. absent-clash x.mi l q a v (ap (λ (y : Peer). y.mi) (sym s) ∙ e)) (Memᴰ.cases_cons n))
    (λ v. ⊎_elim
    (λ u. absent-clash x.mi l p a v (ap (λ (y : Peer). y.mi) (sym u) ∙ sym e))
    (λ w. distinct-one l p q (second-of (absent x.mi l) (distinct l) d) v w e)
    (Memᴰ.cases_cons n))
    (Memᴰ.cases_cons m)

seek-member : (k : ℕ) (p : Peer) (l : List Peer) → distinct l ≡ true → Memᴰ p l → (i : ℕ) × (seek p.mi k l ≡ Some (record { at = i; peer = p }))
seek-member k p [] d m = absurd (Memᴰ.not-nil m)
seek-member k p (x ∷ l) d m =
    let a = first-of (absent x.mi l) (distinct l) d in
    ⊎_elim
    (λ s.
    let e : mi_same p.mi x.mi ≡ true = ap (λ (y : Peer). mi_same p.mi y.mi) (sym s) ∙ same_refl p.mi in
    (k, rw e (ap (λ (y : Peer). Some (let h : Held = record { at = k; peer = y } in h)) (sym s))))
    (λ v. by_cases (mi_same p.mi x.mi)
    (λ e. absent-clash x.mi l p a v (sym (same-eq p.mi x.mi e)))
    (λ e. let r = seek-member (k + 1) p l (second-of (absent x.mi l) (distinct l) d) v in (r.0, rw e r.1)))
    (Memᴰ.cases_cons m)

seek_found : (m : Mi) (k i : ℕ) (p : Peer) (l : List Peer) → seek m k l ≡ Some (record { at = i; peer = p }) → Memᴰ p l × (p.mi ≡ m)
seek_found m k i p [] e = never (cc)
seek_found m k i p (x ∷ l) e =
    by_cases (mi_same m x.mi)
    (λ b.
    let s : p ≡ x = ap (λ (h : Held). h.peer) (sym (found-same (rw b at e))) in
    (Memᴰ.head s, ap (λ (y : Peer). y.mi) s ∙ sym (same-eq m x.mi b)))
    (λ b. let r = seek_found m (k + 1) i p l (rw b at e) in (Memᴰ.tail r.0, r.1))

-- looking an entry's identifier up finds it
pub held-member : (p : Peer) (t : Table) → distinct (entries t) ≡ true → Memᴰ p (entries t) → (i : ℕ) × (held_in p.mi t ≡ Some (record { at = i; peer = p }))
unfolding held_in
held-member p t d m = seek-member 0 p (entries t) d m

-- and what is found is an entry of that identifier
pub held_found : (m : Mi) (i : ℕ) (p : Peer) (t : Table) → held_in m t ≡ Some (record { at = i; peer = p }) → Memᴰ p (entries t) × (p.mi ≡ m)
unfolding held_in
held_found m i p t e = seek_found m 0 i p (entries t) e

pub held-absent : (m : Mi) (t : Table) → absent m (entries t) ≡ true → held_in m t ≡ None
unfolding held_in
held-absent m t a = seek-absent m 0 (entries t) a
