-- Why: field by field, and one record after the other.
use Rattle.std.specs.Prelude.{ℕ, zero, suc, ◌+◌, ◌*◌, ◌/◌, ◌%◌, ◌<◌, ◌≡◌, refl, List, [], ◌∷◌, ◌++◌, ◌&&◌, get_or, eqb}
use Rattle.std.proofs.Common.{ap, ap₂, sym, ◌∙◌, arith, ltb-true, eqb-true, eq-eqb}
use Rattle.base_octets.specs.Number.{be_at, be_of}
use Rattle.base_octets.specs.Run.{runs_of}
use Rattle.base_octets.proofs.Laws.{length-be_of, be-back}
use Rattle.base_octets.proofs.Fields.{first, octet-stands, number-stands}
use Rattle.base_mi.specs.Mi.{mi_octets}
use Rattle.base_mi.proofs.Laws.{length-mi, mi-stands}
use Rattle.base_packed.proofs.Laws.{bit-lt, bit-eqb, eqb-bit}
use Rattle.law_lists.specs.Lists.{every}
use Rattle.table.specs.declared.Peer.{Peer}
use Rattle.law_lists.proofs.Laws.{both, first-of, second-of}
use Rattle.image_peer.specs.Peer.{peer_flags, peer_octets, peers_octets, peer_at, peer_clean, peers_at, peers_clean}
use Rattle.image_peer.proofs.Laws.{length-peer}
use Rattle.law_reread.specs.Cut.{glue, octet-cut, mi-cut, after-it}
use Rattle.law_reread.specs.Peer.{capable, PeerStands, PeerBack, PeersStand, PeersBack}

pub peer-stands : PeerStands
unfolding peer_octets peer_at peer_clean
peer-stands f p at h cap s =
    let m = mi_octets p.mi in
    let n = be_of 4 p.mn in
    let c = be_of 8 p.sci in
    let z : List ℕ = be_of 2 0 in
    let a = be_of 8 p.accepted in
    let t = be_of 8 p.proof in
    let s1 = after-it f m (n ++ (c ++ (p.priority ∷ peer_flags p ∷ (z ++ (a ++ t))))) at 12 (at + 12) (length-mi p.mi) (omega arith) s in
    let s2 = after-it f n (c ++ (p.priority ∷ peer_flags p ∷ (z ++ (a ++ t)))) (at + 12) 4 (at + 16) (length-be_of 4 p.mn) (omega arith) s1 in
    let s3 = after-it f c (p.priority ∷ peer_flags p ∷ (z ++ (a ++ t))) (at + 16) 8 (at + 24) (length-be_of 8 p.sci) (omega arith) s2 in
    let s4 = after-it f (p.priority ∷ []) (peer_flags p ∷ (z ++ (a ++ t))) (at + 24) 1 (at + 25) (omega arith) (omega arith) s3 in
    let s5 = after-it f (peer_flags p ∷ []) (z ++ (a ++ t)) (at + 25) 1 (at + 26) (omega arith) (omega arith) s4 in
    let s6 = after-it f z (a ++ t) (at + 26) 2 (at + 28) (length-be_of 2 0) (omega arith) s5 in
    let s7 = after-it f a t (at + 28) 8 (at + 36) (length-be_of 8 p.accepted) (omega arith) s6 in
    let mi = mi-stands f p.mi at h.mi (first f m (n ++ (c ++ (p.priority ∷ peer_flags p ∷ (z ++ (a ++ t))))) at s) in
    let mn = number-stands f 4 p.mn (at + 12) h.mn (first f n (c ++ (p.priority ∷ peer_flags p ∷ (z ++ (a ++ t)))) (at + 12) s1) in
    let sci = number-stands f 8 p.sci (at + 16) h.sci (first f c (p.priority ∷ peer_flags p ∷ (z ++ (a ++ t))) (at + 16) s2) in
    let priority = octet-stands f p.priority (peer_flags p ∷ (z ++ (a ++ t))) (at + 24) s3 in
    let flags = octet-stands f (peer_flags p) (z ++ (a ++ t)) (at + 25) s4 in
    let zeros = number-stands f 2 0 (at + 26) (omega arith) (first f z (a ++ t) (at + 26) s5) in
    let accepted = number-stands f 8 p.accepted (at + 28) h.accepted (first f a t (at + 28) s6) in
    let proof = number-stands f 8 p.proof (at + 36) h.proof s7 in
    let b = get_or f (at + 25) 0 in
    let ls = bit-lt p.server in
    let ld = bit-lt p.desired in
    let lp = bit-lt p.proven in
    let capability : b / 16 % 4 ≡ p.capability = omega arith in
    let server : eqb (b / 2 % 2) 1 ≡ p.server = eqb-bit (b / 2 % 2) p.server (omega arith) in
    let desired : eqb (b / 4 % 2) 1 ≡ p.desired = eqb-bit (b / 4 % 2) p.desired (omega arith) in
    let proven : eqb (b % 2) 1 ≡ p.proven = eqb-bit (b % 2) p.proven (omega arith) in
    record {
      same =
          λ i. record {
            mi = mi i;
            mn = mn i;
            sci = sci i;
            accepted = accepted i;
            proof = proof i;
            priority = priority i;
            capability = capability i;
            server = server i;
            desired = desired i;
            proven = proven i;
          };
      clean = both _ _ (eq-eqb (b / 8 % 2) 0 (omega arith)) (both _ _ (eq-eqb (b / 64) 0 (omega arith)) (eq-eqb _ 0 zeros));
    }

flags-back : (b c d s p : ℕ) → b < 64 → b / 8 % 2 ≡ 0 → d ≡ b / 4 % 2 → s ≡ b / 2 % 2 → p ≡ b % 2 → c ≡ b / 16 % 4 → c % 4 * 16 + d * 4 + s * 2 + p ≡ b
flags-back b c d s p lt z ed es ep ec =
    let e1 : b ≡ b / 2 * 2 + b % 2 = omega arith in
    let e2 : b / 2 ≡ b / 4 * 2 + b / 2 % 2 = omega arith in
    let e3 : b / 4 ≡ b / 8 * 2 + b / 4 % 2 = omega arith in
    let e4 : b / 8 ≡ b / 16 * 2 + b / 8 % 2 = omega arith in
    let e5 : b / 16 % 4 ≡ b / 16 = omega arith in
    omega arith

pub peer-back : PeerBack
unfolding peer_octets peer_at peer_clean
peer-back s at o fit c =
    let b = get_or s (at + 25) 0 in
    let z = be_at s (at + 26) 2 in
    let c2 = second-of (eqb (b / 8 % 2) 0) (eqb (b / 64) 0 && eqb z 0) c in
    let e8 : b / 8 % 2 ≡ 0 = eqb-true (b / 8 % 2) 0 (first-of (eqb (b / 8 % 2) 0) (eqb (b / 64) 0 && eqb z 0) c) in
    let e64 : b / 64 ≡ 0 = eqb-true (b / 64) 0 (first-of (eqb (b / 64) 0) (eqb z 0) c2) in
    let ez : z ≡ 0 = eqb-true z 0 (second-of (eqb (b / 64) 0) (eqb z 0) c2) in
    let lt : b < 64 = omega arith in
    let flags =
    flags-back b (b / 16 % 4) _ _ _ lt e8 (bit-eqb (b / 4 % 2) (omega arith)) (bit-eqb (b / 2 % 2) (omega arith)) (bit-eqb (b % 2) (omega arith)) refl in
    glue s at (at + 12) 12 32 44 _ _ (omega arith) (omega arith) (mi-cut s at o (omega arith))
    (glue s (at + 12) (at + 16) 4 28 32 _ _ (omega arith) (omega arith) (be-back s (at + 12) 4 o (omega arith))
    (glue s (at + 16) (at + 24) 8 20 28 _ _ (omega arith) (omega arith) (be-back s (at + 16) 8 o (omega arith))
    (glue s (at + 24) (at + 25) 1 19 20 (get_or s (at + 24) 0 ∷ []) _ (omega arith) (omega arith) (octet-cut s (at + 24) (omega arith))
    (glue s (at + 25) (at + 26) 1 18 19 (_ ∷ []) _ (omega arith) (omega arith) (ap (λ (x : ℕ). x ∷ []) flags ∙ octet-cut s (at + 25) (omega arith))
    (glue s (at + 26) (at + 28) 2 16 18 _ _ (omega arith) (omega arith) (ap (be_of 2) (sym ez) ∙ be-back s (at + 26) 2 o (omega arith))
    (glue s (at + 28) (at + 36) 8 8 16 _ _ (omega arith) (omega arith) (be-back s (at + 28) 8 o (omega arith)) (be-back s (at + 36) 8 o (omega arith))))))))

pub peers-stand : PeersStand
unfolding peers_octets peers_at peers_clean
peers-stand f [] at h e s = record { same = refl; clean = refl }
peers-stand f (p ∷ l) at h e s =
    let cap = ltb-true p.capability 4 (first-of (capable p) (every capable l) e) in
    let one = peer-stands f p at h.0 cap (first f (peer_octets p) (runs_of peer_octets l) at s) in
    let more = peers-stand f l (at + 44) h.1 (second-of (capable p) (every capable l) e) (after-it f (peer_octets p) (runs_of peer_octets l) at 44 (at + 44) (length-peer p) refl s) in
    record {
      same = ap₂ (λ (x : Peer) (xs : List Peer). x ∷ xs) one.same more.same;
      clean = both _ _ one.clean more.clean;
    }

pub peers-back : PeersBack
unfolding peers_octets peers_at peers_clean
peers-back s at zero o fit c = refl
peers-back s at (suc n) o fit c =
    glue s at (at + 44) 44 (n * 44) (suc n * 44) (peer_octets (peer_at s at)) (runs_of peer_octets (peers_at s (at + 44) n)) refl (omega arith)
    (peer-back s at o (omega arith) (first-of (peer_clean s at) (peers_clean s (at + 44) n) c))
    (peers-back s (at + 44) n o (omega arith) (second-of (peer_clean s at) (peers_clean s (at + 44) n) c))
