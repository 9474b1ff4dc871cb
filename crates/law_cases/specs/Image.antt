-- Case 1: "Image is 144 octets and begins 00 03 00 00, 00 01 00 01 00 00 00 1C, 00 02 00 00 00 00 00 90, 00 03 00 00 00 00 00 90."
use Rattle.std.specs.Prelude.{ℕ, List, [], ◌∷◌, length, take}
use Rattle.image.specs.Image.{image_of}
use Rattle.law_cases.specs.Row.{Row, row, octets, number}
use Rattle.law_cases.specs.Setting.{first}

abbrev pub contents : List ℕ
contents =
    0x00 ∷ 0x03 ∷ 0x00 ∷ 0x00
    ∷ 0x00 ∷ 0x01 ∷ 0x00 ∷ 0x01 ∷ 0x00 ∷ 0x00 ∷ 0x00 ∷ 0x1c
    ∷ 0x00 ∷ 0x02 ∷ 0x00 ∷ 0x00 ∷ 0x00 ∷ 0x00 ∷ 0x00 ∷ 0x90
    ∷ 0x00 ∷ 0x03 ∷ 0x00 ∷ 0x00 ∷ 0x00 ∷ 0x00 ∷ 0x00 ∷ 0x90 ∷ []

abbrev pub image_cases : List Row
image_cases = row 1 (number 144) (number (length (image_of first))) ∷ row 1 (octets contents) (octets (take 28 (image_of first))) ∷ []
