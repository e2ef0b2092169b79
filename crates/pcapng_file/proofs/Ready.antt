-- A whole block that stands in front of bytes.
use Rattle.std.proofs.Common.{◌≡◌, subst, [], ◌∷◌, Result, Ok, ℕ, ◌+◌, ◌-◌, ◌≤◌, ◌<◌, min, Bool, true, false, ◌&&◌, cond, leb, eqb, List, ◌++◌, length, take, drop, Option, Some, None, refl, sym, ap, ◌∙◌, arith}
use Rattle.std.proofs.lemmas.Bool.{le-leb, eqb-true}
use Rattle.std.proofs.lemmas.Bool.Decides.{nat_tests}
use Rattle.std.specs.Result.{IfOk}
use Rattle.std.proofs.lemmas.List.{take-take, take-append-drop, take-append-le, drop-append-le, length-take, length-append}
use Rattle.std.proofs.Math.Seq.{drop-length}
use Rattle.nf_files.specs.Pieces.{Takes}
use Rattle.pcap_file.specs.declared.form.Endian.{Endian}
use Rattle.pcap_file.specs.Form.{number_in}
use Rattle.pcap_file.proofs.Steps.{both_true}
use Rattle.pcap_file.proofs.Reaching.{number_behind}
use Rattle.pcapng_file.specs.Blocks.{is_section, is_sized, is_closed, closing_in, total_in, said_in}
use Rattle.pcapng_file.specs.declared.step.Step.{Step}
use Rattle.pcapng_file.specs.Taking.{IsBlock, IsBlockFront, IsAccepted, held_of}
use Rattle.pcapng_file.specs.Places.{Place, Hears}
use Rattle.pcapng_file.proofs.Streaming.{closed_sized, closed_within, closing_said, sized}
use Rattle.pcapng_file.proofs.Taking.{section_front, total_front, sized_front, order_within, block_front, a_size, three_true}

eqb_same : (n m : ℕ) → n ≡ m → eqb n m ≡ true
eqb_same n m e = grind (arith, nat_tests)

-- a block is closed by its own bytes alone
closed_so : (order : Endian) (offset : ℕ) (bytes : List ℕ) → is_sized order offset bytes ≡ true → total_in order bytes ≤ length bytes → closing_in order bytes ≡ total_in order bytes → is_closed order offset bytes ≡ true
closed_so order offset bytes size within same =
    three_true (is_sized order offset bytes) (leb (total_in order bytes) (length bytes)) (eqb (closing_in order bytes) (total_in order bytes)) size (le-leb _ _ within) (eqb_same _ _ same)

pub block_there : (order : Endian) (offset total : ℕ) (bytes : List ℕ) → 8 ≤ length bytes → is_section bytes ≡ false → Some total ≡ cond (is_sized order offset bytes) (Some (total_in order bytes)) None
    → total ≤ length bytes → number_in order (drop (total - 4) bytes) ≡ total → total ≤ 262176 → IsBlock order offset (take total bytes)
block_there order offset total bytes far within there le closing few =
    let s = a_size (is_sized order offset bytes) (total_in order bytes) total there in
    let z = sized order offset bytes s.0 in
    let xs = take total bytes in
    let ys = drop total bytes in
    let all : xs ++ ys ≡ bytes = take-append-drop total bytes in
    let long : length xs ≡ total = omega (arith, length-take total bytes) in
    let least : 12 ≤ total = omega (arith, z.least, s.1) in
    let total_is : total_in order xs ≡ total = sym (total_front order xs ys (omega (arith, long, least))) ∙ ap (total_in order) all ∙ sym s.1 in
    let is_there : is_sized order offset xs ≡ true = sym (sized_front order offset xs ys (omega (arith, long, least))) ∙ ap (is_sized order offset) all ∙ s.0 in
    let last : number_in order (drop (total - 4) xs) ≡ total = sym (number_behind order (total - 4) xs ys (omega (arith, long, least))) ∙ ap (λ (b : List ℕ). number_in order (drop (total - 4) b)) all ∙ closing in
    let closing_is : closing_in order xs ≡ total_in order xs = ap (λ (n : ℕ). number_in order (drop (n - 4) xs)) total_is ∙ last ∙ sym total_is in
    record {
      within = sym (section_front xs ys (omega (arith, long, least))) ∙ ap is_section all ∙ within;
      closed = closed_so order offset xs is_there (omega (arith, total_is, long)) closing_is;
      total_is = long ∙ sym total_is;
      few = omega (arith, long);
    }

-- with other bytes behind it, it is a block that was taken in front of them
pub accepted_block : (order : Endian) (offset : ℕ) (block behind : List ℕ) → IsBlock order offset block → IsAccepted order offset (block ++ behind) (take (length block - 4) block) (Some behind) order (length block)
accepted_block order offset block behind b =
    let z = closed_sized order offset block b.closed in
    let far : 8 ≤ length block = omega (arith, z.least, b.total_is) in
    let total_is : total_in order (block ++ behind) ≡ length block = total_front order block behind far ∙ sym b.total_is in
    let a = both_true (is_sized order offset block) (leb (total_in order block) (length block) && eqb (closing_in order block) (total_in order block)) b.closed in
    let is_there : is_sized order offset (block ++ behind) ≡ true = sized_front order offset block behind far ∙ a.0 in
    let closing_is : closing_in order (block ++ behind) ≡ total_in order (block ++ behind) =
    ap (λ (n : ℕ). number_in order (drop (n - 4) (block ++ behind))) total_is
    ∙ number_behind order (length block - 4) block behind (omega (arith, far))
    ∙ ap (λ (n : ℕ). number_in order (drop (n - 4) block)) b.total_is
    ∙ closing_said order offset block b.closed ∙ sym b.total_is ∙ sym total_is in
    let held : held_of (length block) ≡ length block - 4 = omega (arith, b.few) in
    record {
      order_is = block_front order order block behind far (order_within order block b.within);
      closed = closed_so order offset (block ++ behind) is_there (omega (arith, total_is, length-append block behind)) closing_is;
      total_is = sym total_is;
      held_is = sym (take-append-le (length block - 4) block behind (omega arith)) ∙ ap (λ (n : ℕ). take n (block ++ behind)) (sym held);
      rest_is = ap Some (sym (drop-append-le (length block) block behind (omega arith) ∙ ap (λ (xs : List ℕ). xs ++ behind) (drop-length block)));
    }

-- what stood ready was taken, and what it came to
pub ready_so : {E : Type 0} (p new : Place) (block slice frame bytes : List ℕ) (before now : Option (List ℕ)) (order : Endian) (offset total : ℕ) (r : Result Step E) (s : Step)
    → order ≡ p.section.order → offset ≡ p.offset → IsBlock order offset block → length block ≡ total → slice ≡ take (total - 4) block → Takes block before now → before ≡ Some bytes
    → ((all : List ℕ) → IsBlockFront order total slice all → IfOk r (Hears p new total (said_in p.section order all) frame)) → r ≡ Ok s
    → IsAccepted p.section.order p.offset bytes slice now order total × Hears p new total (said_in p.section order bytes) frame s
ready_so p new block slice frame bytes None now order offset total r s order_is offset_is b long slice_is taken there hears is = absurd cc
ready_so p new block slice frame bytes (Some old) None order offset total r s order_is offset_is b long slice_is taken there hears is = absurd taken
ready_so {E = E} p new block slice frame bytes (Some old) (Some left) order offset total r s order_is offset_is b long slice_is taken there hears is =
    let all : block ++ left ≡ bytes = sym taken ∙ one old bytes there in
    let a = accepted_block order offset block left b in
    let a1 = subst (λ (n : ℕ). IsAccepted order offset (block ++ left) (take (n - 4) block) (Some left) order n) long a in
    let a2 = subst (λ (xs : List ℕ). IsAccepted order offset (block ++ left) xs (Some left) order total) (sym slice_is) a1 in
    let a3 = subst (λ (xs : List ℕ). IsAccepted order offset xs slice (Some left) order total) all a2 in
    let a4 = subst (λ (o : Endian). IsAccepted o offset bytes slice (Some left) order total) order_is a3 in
    let a5 = subst (λ (n : ℕ). IsAccepted p.section.order n bytes slice (Some left) order total) offset_is a4 in
    let within = closed_within order offset bytes a3.closed in
    let front : IsBlockFront order total slice bytes = record { total_is = a5.total_is; within = omega (arith, within, a5.total_is); held_is = a5.held_is } in
    (a5, subst (λ (x : Result Step E). IfOk x (Hears p new total (said_in p.section order bytes) frame)) is (hears bytes front))
  where
    one : (xs ys : List ℕ) → Some xs ≡ Some ys → xs ≡ ys
    one xs ys e = cc

-- nothing is held
pub none_in : (xs : List ℕ) (b : Bool) → b ≡ eqb (length xs) 0 → b ≡ true → xs ≡ []
none_in [] b is none = refl
none_in (x ∷ xs) b is none =
    let none_long : length (x ∷ xs) ≡ 0 = eqb-true _ _ (sym is ∙ none) in absurd (omega (arith, none_long))

pub block_long : (total : ℕ) (bytes : List ℕ) → total ≤ length bytes → length (take total bytes) ≡ total
block_long total bytes le = omega (arith, length-take total bytes)

-- a block in front of its closing length
pub front_held : (total : ℕ) (bytes : List ℕ) → take (total - 4) bytes ≡ take (total - 4) (take total bytes)
front_held total bytes = sym (take-take (total - 4) total bytes (omega arith))
