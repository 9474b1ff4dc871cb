-- Why: field by field.
use Rattle.std.specs.Prelude.{ℕ, ◌+◌, ◌≤◌, min, ◌≡◌, List, [], ◌∷◌, ◌++◌, get_or, eqb, leb}
use Rattle.std.proofs.Common.{ap, sym, ◌∙◌, arith, leb-true, le-leb}
use Rattle.base_octets.specs.Number.{be_at, be_of}
use Rattle.base_octets.specs.Run.{part_of}
use Rattle.base_octets.proofs.Laws.{length-be_of, be-back}
use Rattle.base_octets.proofs.Fields.{first, octet-stands, number-stands, part-stands}
use Rattle.base_mi.specs.Mi.{mi_octets}
use Rattle.base_mi.proofs.Laws.{length-mi, mi-stands}
use Rattle.base_packed.specs.Bit.{bit}
use Rattle.base_packed.proofs.Laws.{bit-lt, bit-eqb, eqb-bit}
use Rattle.table.specs.Table.{empty_table}
use Rattle.law_lists.proofs.Laws.{both, first-of, second-of}
use Rattle.participant.specs.Record.{first32, first24}
use Rattle.participant.specs.Keys.{no_slot}
use Rattle.image_own.specs.Own.{named_octets, times_octets, kept_octets, own_octets, own_at, own_clean}
use Rattle.image_own.proofs.Lengths.{length-named, length-times}
use Rattle.law_reread.specs.Cut.{cut, glue, length_cut, octet-cut, mi-cut, part_cut, filled, after-it}
use Rattle.law_reread.specs.Own.{OwnStands, OwnBack}

pub own-stands : OwnStands
unfolding own_octets named_octets times_octets kept_octets own_at own_clean
own-stands f p at h small s =
    let m = mi_octets p.mi in
    let n = be_of 4 p.mn in
    let c = be_of 8 p.sci in
    let flat : List ℕ = p.priority ∷ p.capability ∷ bit p.desired ∷ bit p.mark ∷ [] in
    let named = first f (named_octets p) (times_octets p ++ kept_octets p) at s in
    let rest = after-it f (named_octets p) (times_octets p ++ kept_octets p) at 28 (at + 28) (length-named p) (omega arith) s in
    let times = first f (times_octets p) (kept_octets p) (at + 28) rest in
    let kept = after-it f (times_octets p) (kept_octets p) (at + 28) 28 (at + 56) (length-times p) (omega arith) rest in
    let n1 = after-it f m (n ++ (c ++ flat)) at 12 (at + 12) (length-mi p.mi) (omega arith) named in
    let n2 = after-it f n (c ++ flat) (at + 12) 4 (at + 16) (length-be_of 4 p.mn) (omega arith) n1 in
    let n3 = after-it f c flat (at + 16) 8 (at + 24) (length-be_of 8 p.sci) (omega arith) n2 in
    let n4 = after-it f (p.priority ∷ []) (p.capability ∷ bit p.desired ∷ bit p.mark ∷ []) (at + 24) 1 (at + 25) (omega arith) (omega arith) n3 in
    let n5 = after-it f (p.capability ∷ []) (bit p.desired ∷ bit p.mark ∷ []) (at + 25) 1 (at + 26) (omega arith) (omega arith) n4 in
    let n6 = after-it f (bit p.desired ∷ []) (bit p.mark ∷ []) (at + 26) 1 (at + 27) (omega arith) (omega arith) n5 in
    let clocked = be_of 8 p.clock in
    let sent_at = be_of 8 p.sent in
    let number = be_of 4 p.kn in
    let given = be_of 8 p.distributed in
    let t1 = after-it f clocked (sent_at ++ (number ++ given)) (at + 28) 8 (at + 36) (length-be_of 8 p.clock) (omega arith) times in
    let t2 = after-it f sent_at (number ++ given) (at + 36) 8 (at + 44) (length-be_of 8 p.sent) (omega arith) t1 in
    let t3 = after-it f number given (at + 44) 4 (at + 48) (length-be_of 4 p.kn) (omega arith) t2 in
    let long = be_of 4 (min p.size 32) in
    let k1 = after-it f long (p.ckn ++ p.wrapped) (at + 56) 4 (at + 60) (length-be_of 4 (min p.size 32)) (omega arith) kept in
    let k2 = after-it f p.ckn p.wrapped (at + 60) 32 (at + 92) h.ckn (omega arith) k1 in
    let mi = mi-stands f p.mi at h.mi (first f m (n ++ (c ++ flat)) at named) in
    let mn = number-stands f 4 p.mn (at + 12) h.mn (first f n (c ++ flat) (at + 12) n1) in
    let sci = number-stands f 8 p.sci (at + 16) h.sci (first f c flat (at + 16) n2) in
    let priority = octet-stands f p.priority (p.capability ∷ bit p.desired ∷ bit p.mark ∷ []) (at + 24) n3 in
    let capability = octet-stands f p.capability (bit p.desired ∷ bit p.mark ∷ []) (at + 25) n4 in
    let d = octet-stands f (bit p.desired) (bit p.mark ∷ []) (at + 26) n5 in
    let k = octet-stands f (bit p.mark) [] (at + 27) n6 in
    let desired = eqb-bit (get_or f (at + 26) 0) p.desired d in
    let mark = eqb-bit (get_or f (at + 27) 0) p.mark k in
    let clock = number-stands f 8 p.clock (at + 28) h.clock (first f clocked (sent_at ++ (number ++ given)) (at + 28) times) in
    let sent = number-stands f 8 p.sent (at + 36) h.sent (first f sent_at (number ++ given) (at + 36) t1) in
    let kn = number-stands f 4 p.kn (at + 44) h.kn (first f number given (at + 44) t2) in
    let distributed = number-stands f 8 p.distributed (at + 48) h.distributed t3 in
    let least : min p.size 32 ≡ p.size = omega arith in
    let size = number-stands f 4 (min p.size 32) (at + 56) (omega arith) (first f long (p.ckn ++ p.wrapped) (at + 56) kept) ∙ least in
    let ckn : first32 (part_of f (at + 60) 32) ≡ p.ckn =
    ap first32 (ap (part_of f (at + 60)) (sym h.ckn) ∙ part-stands f p.ckn (at + 60) (first f p.ckn p.wrapped (at + 60) k1)) ∙ filled p.ckn 32 h.ckn in
    let wrapped : first24 (part_of f (at + 92) 24) ≡ p.wrapped =
    ap first24 (ap (part_of f (at + 92)) (sym h.wrapped) ∙ part-stands f p.wrapped (at + 92) k2) ∙ filled p.wrapped 24 h.wrapped in
    let ld = bit-lt p.desired in
    let lk = bit-lt p.mark in
    record {
      same =
          λ i. record {
            mi = mi i;
            mn = mn i;
            sci = sci i;
            priority = priority i;
            capability = capability i;
            desired = desired i;
            mark = mark i;
            clock = clock i;
            sent = sent i;
            kn = kn i;
            distributed = distributed i;
            size = size i;
            ckn = ckn i;
            wrapped = wrapped i;
            table = empty_table;
            latest = no_slot;
            old = no_slot;
          };
      clean = both _ _ (le-leb (get_or f (at + 26) 0) 1 (omega arith)) (le-leb (get_or f (at + 27) 0) 1 (omega arith));
    }

pub own_back : OwnBack
unfolding own_octets named_octets times_octets kept_octets own_at own_clean
own_back s at o fit c small =
    let d = get_or s (at + 26) 0 in
    let k = get_or s (at + 27) 0 in
    let ld : d ≤ 1 = leb-true d 1 (first-of (leb d 1) (leb k 1) c) in
    let lk : k ≤ 1 = leb-true k 1 (second-of (leb d 1) (leb k 1) c) in
    let least : min (be_at s (at + 56) 4) 32 ≡ be_at s (at + 56) 4 = omega arith in
    let named =
    glue s at (at + 12) 12 16 28 _ _ (omega arith) (omega arith) (mi-cut s at o (omega arith))
    (glue s (at + 12) (at + 16) 4 12 16 _ _ (omega arith) (omega arith) (be-back s (at + 12) 4 o (omega arith))
    (glue s (at + 16) (at + 24) 8 4 12 _ _ (omega arith) (omega arith) (be-back s (at + 16) 8 o (omega arith))
    (glue s (at + 24) (at + 25) 1 3 4 (get_or s (at + 24) 0 ∷ []) _ (omega arith) (omega arith) (octet-cut s (at + 24) (omega arith))
    (glue s (at + 25) (at + 26) 1 2 3 (get_or s (at + 25) 0 ∷ []) _ (omega arith) (omega arith) (octet-cut s (at + 25) (omega arith))
    (glue s (at + 26) (at + 27) 1 1 2 (bit (eqb d 1) ∷ []) _ (omega arith) (omega arith) (ap (λ (x : ℕ). x ∷ []) (bit-eqb d (omega arith)) ∙ octet-cut s (at + 26) (omega arith))
    (ap (λ (x : ℕ). x ∷ []) (bit-eqb k (omega arith)) ∙ octet-cut s (at + 27) (omega arith))))))) in
    let times =
    glue s (at + 28) (at + 36) 8 20 28 _ _ (omega arith) (omega arith) (be-back s (at + 28) 8 o (omega arith))
    (glue s (at + 36) (at + 44) 8 12 20 _ _ (omega arith) (omega arith) (be-back s (at + 36) 8 o (omega arith))
    (glue s (at + 44) (at + 48) 4 8 12 _ _ (omega arith) (omega arith) (be-back s (at + 44) 4 o (omega arith)) (be-back s (at + 48) 8 o (omega arith)))) in
    let ckn : first32 (part_of s (at + 60) 32) ≡ cut s (at + 60) 32 =
    ap first32 (part_cut s (at + 60) 32 (omega arith)) ∙ filled (cut s (at + 60) 32) 32 (length_cut s (at + 60) 32 (omega arith)) in
    let wrapped : first24 (part_of s (at + 92) 24) ≡ cut s (at + 92) 24 =
    ap first24 (part_cut s (at + 92) 24 (omega arith)) ∙ filled (cut s (at + 92) 24) 24 (length_cut s (at + 92) 24 (omega arith)) in
    let kept =
    glue s (at + 56) (at + 60) 4 56 60 _ _ (omega arith) (omega arith) (ap (be_of 4) least ∙ be-back s (at + 56) 4 o (omega arith))
    (glue s (at + 60) (at + 92) 32 24 56 _ _ (omega arith) (omega arith) ckn wrapped) in
    glue s at (at + 28) 28 88 116 _ _ (omega arith) (omega arith) named (glue s (at + 28) (at + 56) 28 60 88 _ _ (omega arith) (omega arith) times kept)
