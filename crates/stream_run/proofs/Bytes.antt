-- What packets leave in the files of a run.
use Rattle.std.proofs.Common.{◌≡◌, ℕ, Bool, true, false, cond, ltb, List, [], ◌∷◌, ◌++◌, length, map, filter, refl, sym, ap, ◌∙◌, append_assoc, append-nil, arith}
use Rattle.std.specs.List.{flat_map}
use Rattle.std.proofs.lemmas.Bool.{lt-ltb, le-ltb}
use Rattle.nf_base.specs.declared.card.Card.{Card}
use Rattle.capture_format.specs.declared.format.CaptureFormat.{CaptureFormat}
use Rattle.capture_format.specs.declared.format.CaptureFormat.TheVariants.{Pcap}
use Rattle.capture_format.specs.Written.{head_bytes}
use Rattle.pcap_file.specs.Spelled.{written_bytes, header_bytes}
use Rattle.run_history.specs.Line.{header_line}
use Rattle.run_history.specs.declared.line.Mode.{Mode}
use Rattle.stream_run.specs.Runs.{Handled, handled_in}
use Rattle.stream_run.specs.Texts.{piece, head, bytes_of, sent_bytes, is_sent, record_of, written_of, sent_packets, line_of}
use Rattle.stream_run.specs.Laws.{FilesOnlyGrow, OutputsArePackets, OutputsAreCaptures, JournalsAreLines}
use Rattle.stream_run.proofs.Going.{handled_longer}

pub flat_both : {A B : Type 0} (f : A → List B) (xs ys : List A) → flat_map f (xs ++ ys) ≡ flat_map f xs ++ flat_map f ys
flat_both f [] ys = refl
flat_both {B = B} f (x ∷ xs) ys = ap (λ (t : List B). f x ++ t) (flat_both f xs ys) ∙ sym (append_assoc (f x) (flat_map f xs) (flat_map f ys))

-- more packets
pub bytes_both : (mode : Mode) (workers : ℕ) (card : Card) (format : CaptureFormat) (ports file : ℕ) (hs more : List Handled) → bytes_of mode workers card format ports file (hs ++ more) ≡ bytes_of mode workers card format ports file hs ++ flat_map (piece format ports file) more
unfolding bytes_of
bytes_both mode workers card format ports file hs more =
    ap (λ (t : List ℕ). head mode workers card format ports file ++ t) (flat_both (piece format ports file) hs more)
    ∙ sym (append_assoc (head mode workers card format ports file) (flat_map (piece format ports file) hs) (flat_map (piece format ports file) more))

-- one packet more
pub bytes_more : (mode : Mode) (workers : ℕ) (card : Card) (format : CaptureFormat) (ports file : ℕ) (hs : List Handled) (h : Handled) → bytes_of mode workers card format ports file (hs ++ h ∷ []) ≡ bytes_of mode workers card format ports file hs ++ piece format ports file h
bytes_more mode workers card format ports file hs h =
    bytes_both mode workers card format ports file hs (h ∷ []) ∙ ap (λ (t : List ℕ). bytes_of mode workers card format ports file hs ++ t) (append-nil (piece format ports file h))

-- none yet
pub bytes_none : (mode : Mode) (workers : ℕ) (card : Card) (format : CaptureFormat) (ports file : ℕ) → bytes_of mode workers card format ports file [] ≡ head mode workers card format ports file
unfolding bytes_of
bytes_none mode workers card format ports file = append-nil (head mode workers card format ports file)

pub only_grow : FilesOnlyGrow
only_grow format r later file legal long =
    let on = handled_longer r later legal long in
    let ports = length r.function.handlers in
    record {
      later = flat_map (piece format ports file) on.0;
      all = sym (ap (bytes_of r.mode r.workers r.card format ports file) on.1 ∙ bytes_both r.mode r.workers r.card format ports file (handled_in r) on.0);
    }

-- ---- outputs and the journal

sent_first : (format : CaptureFormat) (b : Bool) (h : Handled) (bytes : List ℕ) (hs : List Handled) → bytes ≡ flat_map (written_of format) hs → cond b (written_of format h) [] ++ bytes ≡ flat_map (written_of format) (cond b (h ∷ hs) hs)
sent_first format true h bytes hs e = ap (λ (t : List ℕ). written_of format h ++ t) e
sent_first format false h bytes hs e = e

sent_all : (format : CaptureFormat) (port : ℕ) (hs : List Handled) → flat_map (sent_bytes format port) hs ≡ flat_map (written_of format) (sent_packets port hs)
sent_all format port [] = refl
sent_all format port (h ∷ hs) = sent_first format (is_sent port h) h (flat_map (sent_bytes format port) hs) (filter (is_sent port) hs) (sent_all format port hs)

pieces_are : (format : CaptureFormat) (b : Bool) (port : ℕ) (hs : List Handled) → b ≡ true → flat_map (λ (h : Handled). cond b (sent_bytes format port h) (line_of h)) hs ≡ flat_map (sent_bytes format port) hs
pieces_are format true port hs e = refl
pieces_are format false port hs e = absurd cc

lines_are : (format : CaptureFormat) (b : Bool) (port : ℕ) (hs : List Handled) → b ≡ false → flat_map (λ (h : Handled). cond b (sent_bytes format port h) (line_of h)) hs ≡ flat_map line_of hs
lines_are format false port hs e = refl
lines_are format true port hs e = absurd cc

pub are_packets : OutputsArePackets
unfolding bytes_of
are_packets format r port lt =
    let ports = length r.function.handlers in
    let test : ltb port ports ≡ true = lt-ltb port ports lt in
    let hs = handled_in r in
    ap (λ (b : Bool). cond b (head_bytes format) (header_line r.mode r.workers r.card) ++ flat_map (piece format ports port) hs) test
    ∙ ap (λ (t : List ℕ). head_bytes format ++ t) (pieces_are format (ltb port ports) port hs test ∙ sent_all format port hs)

records_of : (hs : List Handled) → flat_map (written_of Pcap) hs ≡ flat_map written_bytes (map record_of hs)
records_of [] = refl
records_of (h ∷ hs) = ap (λ (t : List ℕ). written_bytes (record_of h) ++ t) (records_of hs)

pub are_captures : OutputsAreCaptures
are_captures r port lt = are_packets Pcap r port lt ∙ ap (λ (t : List ℕ). header_bytes ++ t) (records_of (sent_packets port (handled_in r)))

pub are_lines : JournalsAreLines
unfolding bytes_of
are_lines format r =
    let ports = length r.function.handlers in
    let test : ltb ports ports ≡ false = le-ltb ports ports (omega arith) in
    let hs = handled_in r in
    ap (λ (b : Bool). cond b (head_bytes format) (header_line r.mode r.workers r.card) ++ flat_map (piece format ports ports) hs) test
    ∙ ap (λ (t : List ℕ). header_line r.mode r.workers r.card ++ t) (lines_are format (ltb ports ports) ports hs test)
