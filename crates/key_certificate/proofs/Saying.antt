-- What a first line says.
use Rattle.std.proofs.Common.{◌≡◌, ℕ, sym, ap, ◌∙◌, List, ◌∷◌, drop, Some}
use Rattle.certificate_text.specs.declared.heading.Heading.{Heading}
use Rattle.certificate_text.specs.Pieces.{lines_of}
use Rattle.certificate_text.specs.Lines.{heading_in}
use Rattle.key_proof.specs.Faults.{heading_of}

pub says_this : (text line : List ℕ) (more : List (List ℕ)) (told heading : Heading) → lines_of (drop 0 text) ≡ line ∷ more → Some told ≡ heading_in line → told ≡ heading → heading_of (lines_of text) ≡ Some heading
says_this text line more told heading is found same = ap heading_of is ∙ sym found ∙ ap Some same
