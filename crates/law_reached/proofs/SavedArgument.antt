-- Why: a save that isn't refused leaves the image and then what stood past it, and the image of a reached participant reads back.
use Rattle.std.specs.Prelude.{ℕ, ◌≡◌, List, length, take, drop, Ok}
use Rattle.std.proofs.Common.{ap, sym, ◌∙◌, take_at}
use Rattle.base_octets.specs.Run.{written}
use Rattle.frame_writer.specs.Frame.{wrote_of}
use Rattle.call_send.proofs.Laws.{wrote-octets}
use Rattle.image.specs.Image.{image_of}
use Rattle.image_reading.specs.Read.{read_of}
use Rattle.law_saved.specs.SavedArgument.{reads-back}
use Rattle.law_history.specs.Calls.{after}
use Rattle.law_reached.proofs.ReachedArgument.{reached}
use Rattle.law_reached.specs.Saved.{SavedReadsBack}

-- the octets written, by what is answered
first-octets : (image out : List ℕ) (n : ℕ) → wrote_of (length image) (length out) ≡ Ok n → take n (written out image) ≡ image
unfolding written
first-octets image out n e =
    let w = wrote-octets (length image) (length out) n e in
    rw w.0 (take_at image (drop (length image) out) n w.1)

pub saved-reads-back : SavedReadsBack
saved-reads-back k ok given cs carried out left n e =
    let p = after k cs in
    let l : written out (image_of p) ≡ left = cc in
    let w : wrote_of (length (image_of p)) (length out) ≡ Ok n = cc in
    ap read_of (ap (take n) (sym l) ∙ first-octets (image_of p) out n w) ∙ reads-back p (reached k ok given cs carried)
