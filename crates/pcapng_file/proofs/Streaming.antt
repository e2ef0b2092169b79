-- A capture, one block after the other.
use Rattle.std.proofs.Common.{◌≡◌, ◌≢◌, ℕ, zero, suc, ◌+◌, ◌-◌, ◌%◌, ◌<◌, ◌≤◌, ◌^◌, Bool, true, false, ◌&&◌, cond, leb, ltb, eqb, List, [], ◌∷◌, length, drop, Option, Some, None, refl, sym, ap, ◌∙◌, arith}
use Rattle.std.proofs.lemmas.Bool.{leb-true, ltb-true, eqb-true, lt-leb, le-leb}
use Rattle.std.proofs.lemmas.List.{length-drop}
use Rattle.pcap_file.specs.declared.form.Endian.{Endian}
use Rattle.pcap_file.proofs.Steps.{both_true}
use Rattle.pcapng_file.specs.Heard.{Stream, behind}
use Rattle.pcapng_file.specs.Blocks.{Section, Said, Whole, total_in, closing_in, block_order, is_sized, is_closed, said_in, whole_of, block_by, block_in}
use Rattle.pcapng_file.specs.Captures.{section_after, heard_by, quiet_after, no_block, with_block, stream_within, stream_from}
use Rattle.pcapng_file.specs.Laws.{BlocksMoveOn}

-- what a total length says of its block
pub record IsSizedSo (order : Endian) (offset : ℕ) (bytes : List ℕ) : Type 0 where
  pub least : 12 ≤ total_in order bytes
  pub ends : offset + total_in order bytes < 2 ^ 64

pub sized : (order : Endian) (offset : ℕ) (bytes : List ℕ) → is_sized order offset bytes ≡ true → IsSizedSo order offset bytes
sized order offset bytes e =
    let a = both_true (leb 12 (total_in order bytes)) (eqb (total_in order bytes % 4) 0 && ltb (offset + total_in order bytes) (2 ^ 64)) e in
    let b = both_true (eqb (total_in order bytes % 4) 0) (ltb (offset + total_in order bytes) (2 ^ 64)) a.1 in
    record { least = leb-true _ _ a.0; ends = ltb-true _ _ b.1 }

pub closed_within : (order : Endian) (offset : ℕ) (bytes : List ℕ) → is_closed order offset bytes ≡ true → total_in order bytes ≤ length bytes
closed_within order offset bytes e =
    let a = both_true (is_sized order offset bytes) (leb (total_in order bytes) (length bytes) && eqb (closing_in order bytes) (total_in order bytes)) e in
    let b = both_true (leb (total_in order bytes) (length bytes)) (eqb (closing_in order bytes) (total_in order bytes)) a.1 in
    leb-true _ _ b.0

pub closing_said : (order : Endian) (offset : ℕ) (bytes : List ℕ) → is_closed order offset bytes ≡ true → closing_in order bytes ≡ total_in order bytes
closing_said order offset bytes e =
    let a = both_true (is_sized order offset bytes) (leb (total_in order bytes) (length bytes) && eqb (closing_in order bytes) (total_in order bytes)) e in
    let b = both_true (leb (total_in order bytes) (length bytes)) (eqb (closing_in order bytes) (total_in order bytes)) a.1 in
    eqb-true _ _ b.1

pub closed_sized : (order : Endian) (offset : ℕ) (bytes : List ℕ) → is_closed order offset bytes ≡ true → IsSizedSo order offset bytes
closed_sized order offset bytes e =
    let a = both_true (is_sized order offset bytes) (leb (total_in order bytes) (length bytes) && eqb (closing_in order bytes) (total_in order bytes)) e in
    sized order offset bytes a.0

-- what a whole block is
pub record IsWholeSo (s : Section) (offset : ℕ) (bytes : List ℕ) (w : Whole) : Type 0 where
  pub order : Endian
  pub order_is : block_order s.order bytes ≡ Some order
  pub closed : is_closed order offset bytes ≡ true
  pub size_is : w.size ≡ total_in order bytes
  pub said_is : said_in s order bytes ≡ Some w.said

some_is : (x y : Whole) → Some x ≡ Some y → x ≡ y
some_is x y e = cc

whole_some : (b : Bool) (size : ℕ) (said : Option Said) (w : Whole) → cond b (whole_of size said) None ≡ Some w → (b ≡ true) × (w.size ≡ size) × (said ≡ Some w.said)
whole_some true size None w e = absurd cc
whole_some false size said w e = absurd cc
whole_some true size (Some said) w e =
    let same : record { size = size; said = said } ≡ w = some_is (record { size = size; said = said }) w e in
    (refl, sym (ap (λ (x : Whole). x.size) same), ap (λ (x : Whole). Some x.said) same)

by_some : (s : Section) (offset : ℕ) (bytes : List ℕ) (o : Option Endian) (w : Whole) → block_order s.order bytes ≡ o → block_by s offset bytes o ≡ Some w → IsWholeSo s offset bytes w
by_some s offset bytes None w is e = absurd cc
by_some s offset bytes (Some order) w is e =
    let parts = whole_some (is_closed order offset bytes) (total_in order bytes) (said_in s order bytes) w e in
    record { order = order; order_is = is; closed = parts.0; size_is = parts.1; said_is = parts.2 }

pub whole : (s : Section) (offset : ℕ) (bytes : List ℕ) (w : Whole) → block_in s offset bytes ≡ Some w → IsWholeSo s offset bytes w
whole s offset bytes w e = by_some s offset bytes (block_order s.order bytes) w refl e

pub blocks_move_on : BlocksMoveOn
blocks_move_on s offset bytes w e =
    let h = whole s offset bytes w e in
    let z = closed_sized h.order offset bytes h.closed in
    (omega (arith, z.least, h.size_is), omega (arith, closed_within h.order offset bytes h.closed, h.size_is), omega (arith, z.ends, h.size_is))

-- ---- any limit that is no less than the bytes gives the same

at_none : (o : Option Whole) (quiet : ℕ) (go : Whole → Stream) (stop : Stream) → o ≡ None → with_block o quiet go stop ≡ stop
at_none None quiet go stop e = refl
at_none (Some w) quiet go stop e = absurd cc

same_option : (o : Option Whole) (w : Whole) → o ≡ Some w → o ≡ Some w
same_option o w e = e

at_some : (w : Whole) (quiet : ℕ) (go : Whole → Stream) (stop : Stream) → quiet_after quiet w.said < 2 ^ 32 → with_block (Some w) quiet go stop ≡ behind (heard_by w.said) (go w)
at_some w quiet go stop lt = ap (λ (b : Bool). cond b stop (behind (heard_by w.said) (go w))) (lt-leb (2 ^ 32) (quiet_after quiet w.said) lt)

at_last : (w : Whole) (quiet : ℕ) (go : Whole → Stream) (stop : Stream) → 2 ^ 32 ≤ quiet_after quiet w.said → with_block (Some w) quiet go stop ≡ stop
at_last w quiet go stop le = ap (λ (b : Bool). cond b stop (behind (heard_by w.said) (go w))) (le-leb (2 ^ 32) (quiet_after quiet w.said) le)

with_same : (o : Option Whole) (quiet : ℕ) (f g : Whole → Stream) (stop : Stream) → ((w : Whole) → o ≡ Some w → f w ≡ g w) → with_block o quiet f stop ≡ with_block o quiet g stop
with_same None quiet f g stop h = refl
with_same (Some w) quiet f g stop h =
    ap (λ (c : Stream). cond (leb (2 ^ 32) (quiet_after quiet w.said)) stop (behind (heard_by w.said) c)) (h w refl)

none_of_nothing : (o : Option Whole) → ((w : Whole) → o ≡ Some w → ⊥) → o ≡ None
none_of_nothing None h = refl
none_of_nothing (Some w) h = absurd (h w refl)

-- no block stands in front of nothing
pub nothing_in : (s : Section) (offset : ℕ) → block_in s offset [] ≡ None
nothing_in s offset = none_of_nothing (block_in s offset []) (λ w e. let h = blocks_move_on s offset [] w e in omega (arith, h.0, h.1))

empty_is : (n : ℕ) (s : Section) (quiet offset : ℕ) → stream_within n s quiet offset [] ≡ no_block offset []
unfolding stream_within
empty_is zero s quiet offset = refl
empty_is (suc n) s quiet offset =
    at_none (block_in s offset []) quiet
    (λ w. stream_within n (section_after s w.said) (quiet_after quiet w.said) (offset + w.size) (drop w.size [])) (no_block offset []) (nothing_in s offset)

within_same : (m n : ℕ) (s : Section) (quiet offset : ℕ) (bytes : List ℕ) → length bytes ≤ m → length bytes ≤ n → stream_within m s quiet offset bytes ≡ stream_within n s quiet offset bytes
unfolding stream_within
within_same zero n s quiet offset [] le le' = sym (empty_is n s quiet offset)
within_same zero n s quiet offset (b ∷ bytes) le le' = absurd (omega arith)
within_same (suc m) zero s quiet offset [] le le' = empty_is (suc m) s quiet offset
within_same (suc m) zero s quiet offset (b ∷ bytes) le le' = absurd (omega arith)
within_same (suc m) (suc n) s quiet offset bytes le le' =
    with_same (block_in s offset bytes) quiet
    (λ w. stream_within m (section_after s w.said) (quiet_after quiet w.said) (offset + w.size) (drop w.size bytes))
    (λ w. stream_within n (section_after s w.said) (quiet_after quiet w.said) (offset + w.size) (drop w.size bytes))
    (no_block offset bytes)
    (λ w e. let h = blocks_move_on s offset bytes w e in
    within_same m n (section_after s w.said) (quiet_after quiet w.said) (offset + w.size) (drop w.size bytes)
    (omega (arith, h.0, length-drop w.size bytes)) (omega (arith, h.0, length-drop w.size bytes)))

-- ---- one block

-- a whole block, and what follows it
pub stream_steps : (s : Section) (quiet offset : ℕ) (bytes : List ℕ) (w : Whole) → block_in s offset bytes ≡ Some w → quiet_after quiet w.said < 2 ^ 32
    → stream_from s quiet offset bytes ≡ behind (heard_by w.said) (stream_from (section_after s w.said) (quiet_after quiet w.said) (offset + w.size) (drop w.size bytes))
unfolding stream_within stream_from
stream_steps s quiet offset [] w e lt = absurd (let h = blocks_move_on s offset [] w e in omega (arith, h.0, h.1))
stream_steps s quiet offset (b ∷ bytes) w e lt =
    let all = b ∷ bytes in
    let go : Whole → Stream = λ v. stream_within (length bytes) (section_after s v.said) (quiet_after quiet v.said) (offset + v.size) (drop v.size all) in
    let h = blocks_move_on s offset all w e in
    let next = within_same (length bytes) (length (drop w.size all)) (section_after s w.said) (quiet_after quiet w.said) (offset + w.size) (drop w.size all) (omega (arith, h.0, length-drop w.size all)) (omega arith) in
    ap (λ (o : Option Whole). with_block o quiet go (no_block offset all)) e ∙ at_some w quiet go (no_block offset all) lt ∙ ap (behind (heard_by w.said)) next

-- no whole block
pub stream_stops : (s : Section) (quiet offset : ℕ) (bytes : List ℕ) → block_in s offset bytes ≡ None → stream_from s quiet offset bytes ≡ no_block offset bytes
unfolding stream_within stream_from
stream_stops s quiet offset [] e = refl
stream_stops s quiet offset (b ∷ bytes) e =
    at_none (block_in s offset (b ∷ bytes)) quiet
    (λ v. stream_within (length bytes) (section_after s v.said) (quiet_after quiet v.said) (offset + v.size) (drop v.size (b ∷ bytes))) (no_block offset (b ∷ bytes)) e

-- the 2^32-th block in a row that is no packet
pub stream_ends : (s : Section) (quiet offset : ℕ) (bytes : List ℕ) (w : Whole) → block_in s offset bytes ≡ Some w → 2 ^ 32 ≤ quiet_after quiet w.said → stream_from s quiet offset bytes ≡ no_block offset bytes
unfolding stream_within stream_from
stream_ends s quiet offset [] w e le = refl
stream_ends s quiet offset (b ∷ bytes) w e le =
    let all = b ∷ bytes in
    let go : Whole → Stream = λ v. stream_within (length bytes) (section_after s v.said) (quiet_after quiet v.said) (offset + v.size) (drop v.size all) in
    ap (λ (o : Option Whole). with_block o quiet go (no_block offset all)) e ∙ at_last w quiet go (no_block offset all) le

pub nothing_left : (s : Section) (quiet offset : ℕ) → stream_from s quiet offset [] ≡ no_block offset []
unfolding stream_within stream_from
nothing_left s quiet offset = refl
