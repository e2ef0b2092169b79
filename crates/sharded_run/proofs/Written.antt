-- What packets leave, put into files one after another.
use Rattle.std.proofs.Common.{◌≡◌, ℕ, List, ◌++◌, take, drop, sym, ap, ◌∙◌, append_assoc}
use Rattle.nf_base.specs.declared.card.Card.{Card}
use Rattle.capture_format.specs.declared.format.CaptureFormat.{CaptureFormat}
use Rattle.std.specs.List.{flat_map}
use Rattle.std.proofs.lemmas.List.{take-append-drop}
use Rattle.nf_files.specs.Told.{Told}
use Rattle.run_history.specs.declared.line.Mode.{Mode}
use Rattle.stream_run.specs.Runs.{Handled}
use Rattle.stream_run.specs.Texts.{piece, bytes_of, IsFrontOf}
use Rattle.stream_run.specs.Writing.{AreFronts}
use Rattle.stream_run.proofs.Bytes.{bytes_both}
use Rattle.stream_run.proofs.Held.{front_longer}

-- fronts of what some packets leave are fronts of what more leave
pub fronts_longer : (mode : Mode) (workers : ℕ) (card : Card) (format : CaptureFormat) (ports : ℕ) (hs all : List Handled) (n : ℕ) (now : Told) (files : List ℕ) → AreFronts mode workers card format ports (hs ++ take n all) now files → AreFronts mode workers card format ports (hs ++ all) now files
fronts_longer mode workers card format ports hs all n now files h k file e =
    let some = hs ++ take n all in
    let whole : hs ++ all ≡ some ++ drop n all = ap (λ (t : List Handled). hs ++ t) (sym (take-append-drop n all)) ∙ sym (append_assoc hs (take n all) (drop n all)) in
    let more : IsFrontOf (bytes_of mode workers card format ports k (hs ++ all)) (bytes_of mode workers card format ports k some) = record {
      later = flat_map (piece format ports k) (drop n all);
      all = sym (ap (bytes_of mode workers card format ports k) whole ∙ bytes_both mode workers card format ports k some (drop n all));
    } in
    front_longer (bytes_of mode workers card format ports k some) (bytes_of mode workers card format ports k (hs ++ all)) (now.given file) more (h k file e)
