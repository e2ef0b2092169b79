-- A record that is whole among bytes, and its own bytes alone.
use Rattle.std.proofs.Common.{◌≡◌, ℕ, ◌+◌, ◌≤◌, true, cond, leb, List, ◌++◌, length, take, drop, Option, Some, None, refl, sym, ap, ◌∙◌, arith}
use Rattle.std.proofs.lemmas.Bool.{le-leb}
use Rattle.std.proofs.lemmas.List.{length-append, length-take, take-append-drop}
use Rattle.pcap_file.specs.declared.form.Endian.{Endian}
use Rattle.pcap_file.specs.Record.{Record}
use Rattle.pcap_file.specs.Capture.{captured_in, is_sized, is_whole, record_in}
use Rattle.pcap_file.specs.Reading.{IsReached}
use Rattle.pcap_file.proofs.Steps.{both_true, whole}
use Rattle.pcap_file.proofs.Recording.{frame_long, some_there}
use Rattle.pcap_file.proofs.Reaching.{number_behind, sized_front, tests, some_nil, record_front}

is_sized_there : (order : Endian) (offset : ℕ) (bytes : List ℕ) → is_whole order offset bytes ≡ true → is_sized order offset bytes ≡ true
is_sized_there order offset bytes e =
    let a = both_true (leb 16 (length bytes)) _ e in
    let b = both_true (is_sized order offset bytes) (leb (16 + captured_in order bytes) (length bytes)) a.1 in
    b.0

-- what stands behind a whole record doesn't matter
whole_alone : (order : Endian) (offset : ℕ) (xs ys : List ℕ) → is_whole order offset (xs ++ ys) ≡ true → length xs ≡ 16 + captured_in order (xs ++ ys) → is_whole order offset xs ≡ true
whole_alone order offset xs ys e long =
    let far : 16 ≤ length xs = omega (arith, long) in
    let captured = number_behind order 8 xs ys (omega arith) in
    tests order offset xs true true true (le-leb _ _ far) (sym (sized_front order offset xs ys far) ∙ is_sized_there order offset (xs ++ ys) e) (le-leb _ _ (omega (arith, captured, long)))

reached_alone : (order : Endian) (offset : ℕ) (xs : List ℕ) → is_whole order offset xs ≡ true → (o : Option (List ℕ)) → IsReached order offset xs o
reached_alone order offset xs e None = tt
reached_alone order offset xs e (Some rest) =
    let w = whole order offset xs e in
    let captured = number_behind order 8 xs rest (omega arith) in
    let long = length-append xs rest in
    let there : is_whole order offset (xs ++ rest) ≡ true = tests order offset (xs ++ rest) true true true (le-leb _ _ (omega arith)) (sized_front order offset xs rest w.headed ∙ is_sized_there order offset xs e) (le-leb _ _ (omega (arith, captured))) in
    (there ∙ sym e, λ none. absurd (some_nil xs 15 w.headed none))

-- the bytes of a record are a whole record, and tell as much of what follows
pub record IsAlone (order : Endian) (offset : ℕ) (q : Record) (xs : List ℕ) (size : ℕ) : Type 0 where
  pub there : Some q ≡ cond (is_whole order offset xs) (Some (record_in order xs)) None
  pub reached : (o : Option (List ℕ)) → IsReached order offset xs o
  pub long : length xs ≡ size

pub alone : (order : Endian) (offset : ℕ) (bytes : List ℕ) (q : Record) (size : ℕ) → Some q ≡ cond (is_whole order offset bytes) (Some (record_in order bytes)) None → size ≡ 16 + length q.frame → (size ≤ length bytes) × IsAlone order offset q (take size bytes) size
alone order offset bytes q size there sized =
    let s = some_there (is_whole order offset bytes) (record_in order bytes) q there in
    let w = whole order offset bytes s.0 in
    let count : size ≡ 16 + captured_in order bytes = omega (arith, frame_long order offset bytes s.0, ap (λ (x : Record). length x.frame) s.1) in
    let xs = take size bytes in
    let ys = drop size bytes in
    let all : xs ++ ys ≡ bytes = take-append-drop size bytes in
    let long : length xs ≡ size = omega (arith, length-take size bytes, w.within) in
    let here = whole_alone order offset xs ys (ap (is_whole order offset) all ∙ s.0) (long ∙ count ∙ ap (λ (b : List ℕ). 16 + captured_in order b) (sym all)) in
    let same : record_in order xs ≡ q = sym (record_front order offset xs ys here) ∙ ap (record_in order) all ∙ s.1 in
    (omega (arith, w.within), record { there = rw here (ap Some (sym same)); reached = reached_alone order offset xs here; long = long })
