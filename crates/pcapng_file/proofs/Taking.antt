-- A block that is taken piece by piece, from what was told of the pieces.
use Rattle.std.proofs.Common.{◌≡◌, ◌≢◌, ◌⊎◌, inl, inr, ℕ, suc, ◌+◌, ◌-◌, ◌*◌, ◌%◌, ◌^◌, ◌<◌, ◌≤◌, min, Bool, true, false, ◌&&◌, cond, leb, ltb, eqb, List, [], ◌∷◌, ◌++◌, length, take, drop, Option, Some, None, Result, Ok, Err, refl, sym, ap, subst, ◌∙◌, append-nil, append_assoc, eq-eqb, arith}
use Rattle.std.specs.Result.{IfOk, OnOk}
use Rattle.std.specs.Option.{IfSome, IfNone}
use Rattle.std.proofs.lemmas.Bool.{le-leb, lt-leb, leb-true, eqb-true}
use Rattle.std.proofs.lemmas.List.{append_cancel_left, take_at, drop_at, drop-drop, drop-append-le, take-append-le, length-append, length-drop, length-take}
use Rattle.nf_files.specs.Told.{Told, IsEmptyIfTold}
use Rattle.nf_files.specs.Reads.{Keeps}
use Rattle.nf_files.specs.declared.fault.FilesFault.{FilesFault}
use Rattle.pcap_file.specs.declared.form.Endian.{Endian}
use Rattle.pcap_file.specs.declared.form.Endian.TheVariants.{Big, Little}
use Rattle.pcap_file.specs.Form.{number_in}
use Rattle.pcap_file.specs.Held.{Held, Grows, Filled, Skips, to_come}
use Rattle.pcap_file.proofs.Reaching.{number_front, number_behind}
use Rattle.pcap_file.proofs.Steps.{both_true}
use Rattle.byteorder.specs.Numbers.{big_from-append, little_from-append}
use Rattle.pcapng_file.specs.Options.{short_in}
use Rattle.pcapng_file.specs.Blocks.{is_section, has_order, order_of, total_in, closing_in, is_header, header_with, header_in, block_order, is_sized, is_closed}
use Rattle.pcapng_file.specs.Taking.{IsReady, IsOrdered, IsRefused, IsAccepted, IsBody, IsClosing, IsClosed, held_of}
use Rattle.pcapng_file.proofs.Streaming.{closed_within, closed_sized, closing_said}

-- ---- files

pub keeps_then : (a b d : Told) (file : ℕ) → Keeps a b file → Keeps b d file → Keeps a d file
keeps_then a b d file k l = record {
  rests = λ g ne. l.rests g ne ∙ k.rests g ne;
  givens = λ g. l.givens g ∙ k.givens g;
  names = λ g. l.names g ∙ k.names g;
  kinds = λ g. l.kinds g ∙ k.kinds g;
  contents = λ n. l.contents n ∙ k.contents n;
  latest_same = λ n. l.latest_same n ∙ k.latest_same n;
  next_same = l.next_same ∙ k.next_same;
}

pub grows_then : (x y z : Held) (a b d : Told) → Grows x y a b → Grows y z b d → Grows x z a d
grows_then x y z a b d g h = record {
  same_file = h.same_file ∙ g.same_file;
  more = g.more ++ h.more;
  grown = h.grown ∙ ap (λ (xs : List ℕ). xs ++ h.more) g.grown ∙ append_assoc x.bytes g.more h.more;
  same_bytes = subst (λ (f : ℕ). to_come z.bytes (d.rest f) ≡ to_come y.bytes (b.rest f)) g.same_file h.same_bytes ∙ g.same_bytes;
  kept = keeps_then a b d x.file g.kept (subst (λ (f : ℕ). Keeps b d f) g.same_file h.kept);
}

some_is : (xs ys : List ℕ) → Some xs ≡ Some ys → xs ≡ ys
some_is xs ys e = cc

-- what is still to come, once nothing is left of the file
pub ended_is : (held bytes : List ℕ) (rest : Option (List ℕ)) → to_come held rest ≡ Some bytes → IsEmptyIfTold rest → bytes ≡ held
ended_is held bytes None e none = absurd cc
ended_is held bytes (Some rest) e none = sym (some_is (held ++ rest) bytes e) ∙ ap (λ (xs : List ℕ). held ++ xs) none ∙ append-nil held

-- what is held stands in front
pub record IsAhead (held bytes : List ℕ) (rest : Option (List ℕ)) : Type 0 where
  pub more : List ℕ
  pub rest_is : rest ≡ Some more
  pub bytes_is : bytes ≡ held ++ more

pub ahead : (held bytes : List ℕ) (rest : Option (List ℕ)) → to_come held rest ≡ Some bytes → IsAhead held bytes rest
ahead held bytes None e = absurd cc
ahead held bytes (Some rest) e = record { more = rest; rest_is = refl; bytes_is = sym (some_is (held ++ rest) bytes e) }

-- ---- what the first bytes tell

not_true : (b : Bool) → (b ≡ true → ⊥) → b ≡ false
not_true true h = absurd (h refl)
not_true false h = refl

short_front : (order : Endian) (n : ℕ) (xs ys : List ℕ) → n + 2 ≤ length xs → short_in order (drop n (xs ++ ys)) ≡ short_in order (drop n xs)
short_front Big n xs ys le = ap (short_in Big) (drop-append-le n xs ys (omega arith)) ∙ big_from-append 2 (drop n xs) ys (omega (arith, length-drop n xs))
short_front Little n xs ys le = ap (short_in Little) (drop-append-le n xs ys (omega arith)) ∙ little_from-append 2 (drop n xs) ys (omega (arith, length-drop n xs))

pub section_front : (xs ys : List ℕ) → 4 ≤ length xs → is_section (xs ++ ys) ≡ is_section xs
section_front xs ys le = ap (λ (n : ℕ). eqb n 0x0a0d0d0a) (number_front Big xs ys le)

pub total_front : (order : Endian) (xs ys : List ℕ) → 8 ≤ length xs → total_in order (xs ++ ys) ≡ total_in order xs
total_front order xs ys le = number_behind order 4 xs ys le

order_front : (xs ys : List ℕ) → 12 ≤ length xs → order_of (xs ++ ys) ≡ order_of xs
order_front xs ys le =
    let choose : Bool → Bool → Option Endian = λ a b. cond a (Some Big) (cond b (Some Little) None) in
    let one : has_order Big (xs ++ ys) ≡ has_order Big xs = ap (λ (n : ℕ). eqb n 0x1a2b3c4d) (number_behind Big 8 xs ys le) in
    let two : has_order Little (xs ++ ys) ≡ has_order Little xs = ap (λ (n : ℕ). eqb n 0x1a2b3c4d) (number_behind Little 8 xs ys le) in
    ap (λ (a : Bool). choose a (has_order Little (xs ++ ys))) one ∙ ap (λ (b : Bool). choose (has_order Big xs) b) two

four_same : (a b d e a' b' d' e' : Bool) → a ≡ a' → b ≡ b' → d ≡ d' → e ≡ e' → (a && (b && (d && e))) ≡ (a' && (b' && (d' && e')))
four_same a b d e a' b' d' e' p q r s = cc

right_front : (order : Endian) (xs ys : List ℕ) → 24 ≤ length xs → is_header order (xs ++ ys) ≡ is_header order xs
right_front order xs ys le =
    let total = total_front order xs ys (omega arith) in
    four_same (leb 24 (length (xs ++ ys))) (leb 28 (total_in order (xs ++ ys))) (eqb (total_in order (xs ++ ys) % 4) 0) (eqb (short_in order (drop 12 (xs ++ ys))) 1)
    (leb 24 (length xs)) (leb 28 (total_in order xs)) (eqb (total_in order xs % 4) 0) (eqb (short_in order (drop 12 xs)) 1)
    (le-leb 24 (length (xs ++ ys)) (omega (arith, length-append xs ys)) ∙ sym (le-leb 24 (length xs) le))
    (ap (λ (n : ℕ). leb 28 n) total) (ap (λ (n : ℕ). eqb (n % 4) 0) total)
    (ap (λ (n : ℕ). eqb n 1) (short_front order 12 xs ys (omega arith)))

with_front : (o : Option Endian) (xs ys : List ℕ) → 24 ≤ length xs → header_with (xs ++ ys) o ≡ header_with xs o
with_front None xs ys le = refl
with_front (Some order) xs ys le = ap (λ (b : Bool). cond b (Some order) None) (right_front order xs ys le)

pub header_front : (xs ys : List ℕ) → 24 ≤ length xs → header_in (xs ++ ys) ≡ header_in xs
header_front xs ys le = ap (header_with (xs ++ ys)) (order_front xs ys (omega arith)) ∙ with_front (order_of xs) xs ys le

header_short_with : (o : Option Endian) (xs : List ℕ) → length xs < 24 → header_with xs o ≡ None
header_short_with None xs lt = refl
header_short_with (Some order) xs lt =
    ap (λ (b : Bool). cond (b && (leb 28 (total_in order xs) && (eqb (total_in order xs % 4) 0 && eqb (short_in order (drop 12 xs)) 1))) (Some order) None) (lt-leb 24 (length xs) lt)

pub header_short : (xs : List ℕ) → length xs < 24 → header_in xs ≡ None
header_short xs lt = header_short_with (order_of xs) xs lt

header_chosen : (order found : Endian) (xs : List ℕ) (b : Bool) → is_header order xs ≡ b → cond b (Some order) None ≡ Some found → (24 ≤ length xs) × (28 ≤ total_in found xs)
header_chosen order found xs false is h = absurd cc
header_chosen order found xs true is h =
    let same : order ≡ found = cc in
    let a = both_true (leb 24 (length xs)) (leb 28 (total_in order xs) && (eqb (total_in order xs % 4) 0 && eqb (short_in order (drop 12 xs)) 1)) is in
    let b = both_true (leb 28 (total_in order xs)) (eqb (total_in order xs % 4) 0 && eqb (short_in order (drop 12 xs)) 1) a.1 in
    (leb-true _ _ a.0, subst (λ (o : Endian). 28 ≤ total_in o xs) same (leb-true _ _ b.0))

header_total_with : (o : Option Endian) (xs : List ℕ) (found : Endian) → header_with xs o ≡ Some found → (24 ≤ length xs) × (28 ≤ total_in found xs)
header_total_with None xs found e = absurd cc
header_total_with (Some order) xs found e = header_chosen order found xs (is_header order xs) refl e

pub header_total : (xs : List ℕ) (found : Endian) → header_in xs ≡ Some found → (24 ≤ length xs) × (28 ≤ total_in found xs)
header_total xs found e = header_total_with (order_of xs) xs found e

-- the byte order of a block, by whether it is a section's header
pub order_within : (order : Endian) (xs : List ℕ) → is_section xs ≡ false → block_order order xs ≡ Some order
order_within order xs e = ap (λ (b : Bool). cond b (header_in xs) (Some order)) e

pub order_header : (order : Endian) (xs : List ℕ) → is_section xs ≡ true → block_order order xs ≡ header_in xs
order_header order xs e = ap (λ (b : Bool). cond b (header_in xs) (Some order)) e

bool_cases : (b : Bool) → (b ≡ true) ⊎ (b ≡ false)
bool_cases true = inl refl
bool_cases false = inr refl

pub block_front : (order found : Endian) (xs ys : List ℕ) → 8 ≤ length xs → block_order order xs ≡ Some found → block_order order (xs ++ ys) ≡ Some found
block_front order found xs ys le is = elim (bool_cases (is_section xs)) [
  | inl begins ↦ let h : header_in xs ≡ Some found = sym (order_header order xs begins) ∙ is in order_header order (xs ++ ys) (section_front xs ys (omega arith) ∙ begins) ∙ header_front xs ys (header_total xs found h).0 ∙ h
  | inr within ↦ order_within order (xs ++ ys) (section_front xs ys (omega arith) ∙ within) ∙ sym (order_within order xs within) ∙ is
]

-- ---- a block that is refused

same_order : (x y : Endian) (o : Option Endian) → o ≡ Some x → o ≡ Some y → x ≡ y
same_order x y o p q = cc

no_bytes : (xs ys : List ℕ) → xs ++ ys ≡ [] → xs ≡ []
no_bytes [] ys e = refl
no_bytes (x ∷ xs) ys e = absurd cc

-- what is held says whether anything is there
pub some_ahead : (held more : List ℕ) → held ≢ [] → held ++ more ≢ []
some_ahead held more ne e = ne (no_bytes held more e)

-- fewer than 8 bytes
pub refused_short : (order : Endian) (offset : ℕ) (held : List ℕ) → length held < 8 → IsRefused order offset held held
refused_short order offset held lt = record {
  none = λ found is. not_true (is_closed found offset held) (λ e. let s = closed_sized found offset held e in let w = closed_within found offset held e in omega (arith, s.least, w));
  empty = λ e. e;
  some = λ ne. ne;
}

-- a section's header that is cut
pub refused_cut : (order : Endian) (offset : ℕ) (held : List ℕ) → length held < 24 → is_section held ≡ true → IsRefused order offset held held
refused_cut order offset held lt begins = record {
  none = λ found is. absurd (let no : None ≡ Some found = sym (header_short held lt) ∙ sym (order_header order held begins) ∙ is in cc);
  empty = λ e. e;
  some = λ ne. ne;
}

-- a section's header that is wrong
pub refused_wrong : (order : Endian) (offset : ℕ) (held more : List ℕ) → 24 ≤ length held → is_section held ≡ true → header_in held ≡ None → IsRefused order offset (held ++ more) held
refused_wrong order offset held more le begins none = record {
  none = λ found is. absurd (let no : None ≡ Some found = sym none ∙ sym (header_front held more le) ∙ sym (order_header order (held ++ more) (section_front held more (omega arith) ∙ begins)) ∙ is in cc);
  empty = λ e. absurd (let zero_long : length held ≡ 0 = ap length e in omega arith);
  some = λ ne. some_ahead held more ne;
}

pub sized_front : (order : Endian) (offset : ℕ) (xs ys : List ℕ) → 8 ≤ length xs → is_sized order offset (xs ++ ys) ≡ is_sized order offset xs
sized_front order offset xs ys le =
    ap (λ (n : ℕ). leb 12 n && (eqb (n % 4) 0 && ltb (offset + n) (2 ^ 64))) (total_front order xs ys le)

no_size : (b : Bool) (n : ℕ) → None ≡ cond b (Some n) None → b ≡ false
no_size true n e = absurd cc
no_size false n e = refl

pub a_size : (b : Bool) (n k : ℕ) → Some k ≡ cond b (Some n) None → (b ≡ true) × (k ≡ n)
a_size true n k e = (refl, cc)
a_size false n k e = absurd cc

-- a block whose total length is wrong
pub refused_sized : (order found : Endian) (offset : ℕ) (held more : List ℕ) → IsOrdered order held found → None ≡ cond (is_sized found offset held) (Some (total_in found held)) None → IsRefused order offset (held ++ more) held
refused_sized order found offset held more is none = record {
  none = λ other there.
      let same : found ≡ other = same_order found other (block_order order (held ++ more)) (block_front order found held more is.long is.order_is) there in
      let wrong : is_sized found offset (held ++ more) ≡ false = sized_front found offset held more is.long ∙ no_size (is_sized found offset held) (total_in found held) none in
      subst (λ (o : Endian). is_closed o offset (held ++ more) ≡ false) same
      (ap (λ (b : Bool). b && (leb (total_in found (held ++ more)) (length (held ++ more)) && eqb (closing_in found (held ++ more)) (total_in found (held ++ more)))) wrong);
  empty = λ e. absurd (let zero_long : length held ≡ 0 = ap length e in omega (arith, is.long));
  some = λ ne. some_ahead held more ne;
}

-- ---- a block that is taken

-- all in front of the closing length
pub body_of : (total : ℕ) (held bytes : List ℕ) (middle rest : Option (List ℕ)) (b : Bool) → 12 ≤ total → to_come held middle ≡ Some bytes → length held ≡ held_of total → Skips (total - 4 - held_of total) middle rest b → IsBody total bytes held rest b
body_of total held bytes None rest b le e long s = absurd cc
body_of total held bytes (Some middle) None b le e long s = absurd s
body_of total held bytes (Some middle) (Some rest) true le e long s =
    let all : held ++ middle ≡ bytes = some_is (held ++ middle) bytes e in
    let count : held_of total + (total - 4 - held_of total) ≡ total - 4 = omega arith in
    let left : drop (total - 4) bytes ≡ drop (total - 4 - held_of total) middle =
    ap (λ (n : ℕ). drop n bytes) (sym count) ∙ sym (drop-drop (total - 4 - held_of total) (held_of total) bytes)
    ∙ ap (λ (xs : List ℕ). drop (total - 4 - held_of total) (drop (held_of total) xs)) (sym all)
    ∙ ap (drop (total - 4 - held_of total)) (drop_at held middle (held_of total) long) in (
      omega (arith, ap length all, length-append held middle, s.0, long),
      sym (take_at held middle (held_of total) long) ∙ ap (take (held_of total)) all,
      ap Some (s.1 ∙ sym left),
    )
body_of total held bytes (Some middle) (Some rest) false le e long s =
    let all : held ++ middle ≡ bytes = some_is (held ++ middle) bytes e in
    omega (arith, ap length all, length-append held middle, s.0, long)

pub body_short : (total : ℕ) (held bytes : List ℕ) (rest left : Option (List ℕ)) → to_come held rest ≡ Some bytes → IsEmptyIfTold rest → length held < held_of total → IsBody total bytes held left false
body_short total held bytes rest left e none lt = omega (arith, ap length (ended_is held bytes rest e none))

pub body_result : (r : Result Bool FilesFault) (total : ℕ) (old new : Held) (bytes : List ℕ) (middle rest : Option (List ℕ)) → 12 ≤ total → to_come old.bytes middle ≡ Some bytes → length old.bytes ≡ held_of total
    → IfOk r (Skips (total - 4 - held_of total) middle rest) → OnOk r (new ≡ old) → IfOk r (IsBody total bytes new.bytes rest)
body_result (Err fault) total old new bytes middle rest le e long s same = tt
body_result (Ok b) total old new bytes middle rest le e long s same =
    subst (λ (h : Held). IsBody total bytes h.bytes rest b) (sym same) (body_of total old.bytes bytes middle rest b le e long s)

-- the closing length, by what was taken of it
says_so : (b : Bool) (n total : ℕ) → b ≡ eqb n total → (b ≡ true → n ≡ total) × (b ≡ false → n ≢ total)
says_so b n total is = (λ e. eqb-true n total (sym is ∙ e), λ e same. let t : eqb n total ≡ true = eq-eqb n total same in absurd cc)

closed_by : (order : Endian) (total : ℕ) (bytes now : List ℕ) (s : Bool) → (s ≡ true → number_in order bytes ≡ total) × (s ≡ false → number_in order bytes ≢ total) → 4 ≤ length bytes → Some now ≡ Some (drop 4 bytes) → IsClosing order total bytes (Some now) s
closed_by order total bytes now true cases le left = (le, cases.0 refl, left)
closed_by order total bytes now false cases le left = inr (cases.1 refl)

pub closing_of : (order : Endian) (total : ℕ) (held more bytes : List ℕ) (now : Option (List ℕ)) (b same : Bool) → to_come (held ++ more) now ≡ Some (held ++ bytes)
    → Filled (length held + 4) (held ++ more) now b → length (held ++ more) ≤ length held + 4
    → same ≡ (leb 4 (length more) && eqb (number_in order more) total) → IsClosing order total bytes now same
closing_of order total held more bytes None b same e filled most is = absurd cc
closing_of order total held more bytes (Some now) true same e filled most is =
    let all : more ++ now ≡ bytes = append_cancel_left held (more ++ now) bytes (sym (append_assoc held more now) ∙ some_is ((held ++ more) ++ now) (held ++ bytes) e) in
    let four : length more ≡ 4 = omega (arith, length-append held more) in
    let there : leb 4 (length more) ≡ true = le-leb _ _ (omega arith) in
    let number : number_in order bytes ≡ number_in order more = ap (number_in order) (sym all) ∙ number_front order more now (omega arith) in
    let said : same ≡ eqb (number_in order bytes) total = is ∙ ap (λ (x : Bool). x && eqb (number_in order more) total) there ∙ ap (λ (n : ℕ). eqb n total) (sym number) in
    let cases = says_so same (number_in order bytes) total said in
    closed_by order total bytes now same cases (omega (arith, ap length all, length-append more now)) (ap Some (sym (drop_at more now 4 four) ∙ ap (drop 4) all))
closing_of order total held more bytes (Some now) false same e filled most is =
    let all : more ++ now ≡ bytes = append_cancel_left held (more ++ now) bytes (sym (append_assoc held more now) ∙ some_is ((held ++ more) ++ now) (held ++ bytes) e) in
    let few : length more < 4 = omega (arith, length-append held more) in
    let no : same ≡ false = is ∙ ap (λ (x : Bool). x && eqb (number_in order more) total) (lt-leb 4 (length more) few) in
    subst (λ (s : Bool). IsClosing order total bytes (Some now) s) (sym no) (inl (omega (arith, ap length all, length-append more now, ap length filled.1)))

-- the closing length behind a body
pub closed_of : (order : Endian) (total : ℕ) (bytes held : List ℕ) (rest : Option (List ℕ)) (b : Bool) → 12 ≤ total → total ≤ length bytes + 4 → held ≡ take (held_of total) bytes
    → IsClosing order total (drop (total - 4) bytes) rest b → IsClosed order total bytes held rest b
closed_of order total bytes held rest true le there is c =
    let count : total - 4 + 4 ≡ total = omega arith in
    (omega (arith, c.0, length-drop (total - 4) bytes), c.1, is, c.2 ∙ ap Some (drop-drop 4 (total - 4) bytes ∙ ap (λ (n : ℕ). drop n bytes) count))
closed_of order total bytes held rest false le there is (inl few) = inl (omega (arith, few, length-drop (total - 4) bytes))
closed_of order total bytes held rest false le there is (inr other) = inr other

pub closed_result : (r : Result Bool FilesFault) (order : Endian) (total : ℕ) (bytes : List ℕ) (old new : Held) (rest : Option (List ℕ)) → 12 ≤ total → total ≤ length bytes + 4 → old.bytes ≡ take (held_of total) bytes
    → IfOk r (IsClosing order total (drop (total - 4) bytes) rest) → OnOk r (new ≡ old) → IfOk r (IsClosed order total bytes new.bytes rest)
closed_result (Err fault) order total bytes old new rest le there is c same = tt
closed_result (Ok b) order total bytes old new rest le there is c same =
    closed_of order total bytes new.bytes rest b le there (ap (λ (h : Held). h.bytes) same ∙ is) c

pub three_true : (a b d : Bool) → a ≡ true → b ≡ true → d ≡ true → (a && (b && d)) ≡ true
three_true a b d p q r = rw (p, q, r) refl

-- a whole block
pub accepted : (order found : Endian) (offset total : ℕ) (held more last : List ℕ) (rest : Option (List ℕ)) → IsOrdered order held found
    → Some total ≡ cond (is_sized found offset held) (Some (total_in found held)) None → IsClosed found total (held ++ more) last rest true → IsAccepted order offset (held ++ more) last rest found total
accepted order found offset total held more last rest is sized c =
    let s = a_size (is_sized found offset held) (total_in found held) total sized in
    let bytes = held ++ more in
    let total_is : total ≡ total_in found bytes = s.1 ∙ sym (total_front found held more is.long) in
    let right : is_sized found offset bytes ≡ true = sized_front found offset held more is.long ∙ s.0 in
    let within : leb (total_in found bytes) (length bytes) ≡ true = le-leb _ _ (omega (arith, total_is, c.0)) in
    let said : eqb (closing_in found bytes) (total_in found bytes) ≡ true = eq-eqb _ _ (ap (λ (n : ℕ). number_in found (drop (n - 4) bytes)) (sym total_is) ∙ c.1 ∙ total_is) in
    record {
      order_is = block_front order found held more is.long is.order_is;
      closed = three_true (is_sized found offset bytes) (leb (total_in found bytes) (length bytes)) (eqb (closing_in found bytes) (total_in found bytes)) right within said;
      total_is = total_is;
      held_is = c.2;
      rest_is = c.3;
    }

open_so : (found : Endian) (offset total : ℕ) (bytes last : List ℕ) (rest : Option (List ℕ)) → total ≡ total_in found bytes → is_closed found offset bytes ≡ true → IsClosed found total bytes last rest false → ⊥
open_so found offset total bytes last rest is e (inl few) = let w = closed_within found offset bytes e in omega (arith, is, w)
open_so found offset total bytes last rest is e (inr other) = other (ap (λ (n : ℕ). number_in found (drop (n - 4) bytes)) is ∙ closing_said found offset bytes e ∙ sym is)

-- a block that is cut, or whose lengths differ
pub refused_closed : (order found : Endian) (offset total : ℕ) (held more last : List ℕ) (rest : Option (List ℕ)) → IsOrdered order held found
    → Some total ≡ cond (is_sized found offset held) (Some (total_in found held)) None → IsClosed found total (held ++ more) last rest false → length held ≤ length last → IsRefused order offset (held ++ more) last
refused_closed order found offset total held more last rest is sized c le =
    let s = a_size (is_sized found offset held) (total_in found held) total sized in
    let bytes = held ++ more in
    let total_is : total ≡ total_in found bytes = s.1 ∙ sym (total_front found held more is.long) in
    record {
      none = λ other there.
          let same : found ≡ other = same_order found other (block_order order bytes) (block_front order found held more is.long is.order_is) there in
          subst (λ (o : Endian). is_closed o offset bytes ≡ false) same (not_true (is_closed found offset bytes) (λ e. open_so found offset total bytes last rest total_is e c));
      empty = λ e. absurd (let zero_long : length last ≡ 0 = ap length e in omega (arith, is.long));
      some = λ ne e. let zero_long : length (held ++ more) ≡ 0 = ap length e in absurd (omega (arith, is.long, length-append held more));
    }

-- ---- the answers on a block's byte order

pub found_header : (order : Endian) (held : List ℕ) (o : Option Endian) → o ≡ header_in held → is_section held ≡ true → length held ≤ 24 → IfSome o (IsOrdered order held)
found_header order held None is begins le = tt
found_header order held (Some found) is begins le =
    let t = header_total held found (sym is) in
    record { long = omega (arith, t.0); order_is = order_header order held begins ∙ sym is; short = inr (le, t.1) }

pub none_header : (order : Endian) (offset : ℕ) (held bytes : List ℕ) (rest : Option (List ℕ)) (o : Option Endian) → o ≡ header_in held → is_section held ≡ true → 24 ≤ length held → to_come held rest ≡ Some bytes → IfNone o (IsRefused order offset bytes held)
none_header order offset held bytes rest None is begins le e =
    let a = ahead held bytes rest e in
    subst (λ (xs : List ℕ). IsRefused order offset xs held) (sym a.bytes_is) (refused_wrong order offset held a.more le begins (sym is))
none_header order offset held bytes rest (Some found) is begins le e = tt

pub cut_header : (order : Endian) (offset : ℕ) (held bytes : List ℕ) (rest : Option (List ℕ)) (b : Bool) → b ≡ false → Filled 24 held rest b → is_section held ≡ true → to_come held rest ≡ Some bytes → IsRefused order offset bytes held
cut_header order offset held bytes rest true is filled begins e = absurd cc
cut_header order offset held bytes rest false is filled begins e =
    subst (λ (xs : List ℕ). IsRefused order offset xs held) (sym (ended_is held bytes rest e filled.1)) (refused_cut order offset held filled.0 begins)

pub filled_long : (wanted : ℕ) (held : List ℕ) (rest : Option (List ℕ)) (b : Bool) → b ≡ true → Filled wanted held rest b → wanted ≤ length held
filled_long wanted held rest true is filled = filled
filled_long wanted held rest false is filled = absurd cc

pub section_grown : (xs held : List ℕ) (more : List ℕ) → held ≡ xs ++ more → 4 ≤ length xs → is_section xs ≡ true → is_section held ≡ true
section_grown xs held more grown le begins = ap is_section grown ∙ section_front xs more le ∙ begins
