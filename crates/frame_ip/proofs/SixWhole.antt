-- The checksum of TCP or UDP in a whole IPv6 frame stays right under its edits.
use Rattle.std.proofs.Common.{◌≡◌, ℕ, suc, ◌+◌, ◌*◌, ◌/◌, ◌%◌, ◌<◌, ◌≤◌, Bool, true, false, cond, eqb, List, [], ◌∷◌, ◌++◌, length, set, get_or, slice_index, Option, Some, None, refl, ap, sym, subst, ◌∙◌, arith}
use Rattle.std.proofs.lemmas.List.{get_or-set_same, get_or-set_other}
use Rattle.nf_base.specs.declared.done.Edits.{Edits}
use Rattle.frame_ip.specs.Bytes.{number_at}
use Rattle.frame_ip.specs.Writes.{Write, put_all, macs, ports}
use Rattle.frame_ip.specs.Checksum.{updated}
use Rattle.frame_ip.specs.SixEdit.{address_words, hop_words, hops, addresses, is_udp, checksum_at, transport_checksum, edited}
use Rattle.frame_ip.specs.SixSums.{segment_length, IsTransportRight, TransportKeepsRight}
use Rattle.frame_ip.proofs.Writing.{put_more}
use Rattle.frame_ip.proofs.Parts.{double, word_read}
use Rattle.frame_ip.proofs.Rising.{Rises, Even, rises_from, rises_more, even_more, all_long, byte_below, byte_above, word_below, word_above}
use Rattle.frame_ip.proofs.Exchanged.{transport_stays}
use Rattle.frame_ip.proofs.Standing.{macs_rise, ports_rise, ports_even, with_checksum, sum_at}

-- what is known of a handled frame
pub record Known (f : List ℕ) : Type 0 where
  pub some_proto : 0 < slice_index f 20
  pub proto : slice_index f 20 < 256
  pub header : 62 ≤ length f
  pub checksum : checksum_at f + 2 ≤ length f

-- ---- where words stand

hop_rises : (proto : ℕ) (v : Option ℕ) → Rises 20 22 (hop_words proto v)
hop_rises proto None = omega arith
hop_rises proto (Some v) = (omega arith, omega arith)

address_rises : (at : ℕ) (v : Option ℕ) → Rises at (at + 16) (address_words at v)
address_rises at None = omega arith
address_rises at (Some v) = (omega arith, (omega arith, (omega arith, (omega arith, (omega arith, (omega arith, (omega arith, (omega arith, omega arith))))))))

address_even : (s at k : ℕ) (v : Option ℕ) → at ≡ s + double k → Even s (address_words at v)
address_even s at k None e = tt
address_even s at k (Some v) e = (
  (k, e),
  (
    (suc k, omega (arith, e)),
    (
      (suc (suc k), omega (arith, e)),
      (
        (suc (suc (suc k)), omega (arith, e)),
        (
          (suc (suc (suc (suc k))), omega (arith, e)),
          (
            (suc (suc (suc (suc (suc k)))), omega (arith, e)),
            (
              (suc (suc (suc (suc (suc (suc k))))), omega (arith, e)),
              ((suc (suc (suc (suc (suc (suc (suc k)))))), omega (arith, e)), tt),
            ),
          ),
        ),
      ),
    ),
  ),
)

addresses_rise : (e : Edits) → Rises 22 54 (addresses e)
addresses_rise e = rises_more 22 38 54 (address_words 22 e.src_ip6) (address_words 38 e.dst_ip6) (address_rises 22 e.src_ip6) (address_rises 38 e.dst_ip6)

addresses_even : (e : Edits) → Even 22 (addresses e)
addresses_even e = even_more 22 (address_words 22 e.src_ip6) (address_words 38 e.dst_ip6) (address_even 22 22 0 e.src_ip6 refl) (address_even 22 38 8 e.dst_ip6 refl)

-- where the checksum of TCP or UDP stands
record Place (at : ℕ) : Type 0 where
  pub k : ℕ
  pub even : at ≡ 54 + double k
  pub apart : 60 ≤ at

place_of : (b : Bool) → Place (cond b 60 70)
place_of true = record { k = 3; even = refl; apart = omega arith }
place_of false = record { k = 8; even = refl; apart = omega arith }

place : (f : List ℕ) → Place (checksum_at f)
place f = place_of (is_udp f)

-- ---- one list of words and then another

module _ (f : List ℕ) (m t a p c : List Write) where
  by_segment : put_all (m ++ (t ++ (a ++ (p ++ c)))) f ≡ put_all (p ++ c) (put_all a (put_all (m ++ t) f))
  by_segment = simp put_more

  by_last : put_all (m ++ (t ++ (a ++ (p ++ c)))) f ≡ put_all c (put_all (m ++ (t ++ (a ++ p))) f)
  by_last = simp put_more

  by_hop : put_all (m ++ (t ++ (a ++ (p ++ c)))) f ≡ put_all (a ++ (p ++ c)) (put_all t (put_all m f))
  by_hop = simp put_more

-- ---- what stays

-- a frame g in which f's headers are but for what is edited
record Same (e : Edits) (f g : List ℕ) : Type 0 where
  pub total : number_at g 18 2 ≡ number_at f 18 2
  pub proto : slice_index g 20 ≡ slice_index f 20
  pub own : number_at g 58 2 ≡ number_at f 58 2
  pub long : length g ≡ length f
  pub sum : number_at g (checksum_at f) 2 ≡ transport_checksum e f

-- the next header, which stands in the hop limit's word
hop_keeps : (f : List ℕ) (v : Option ℕ) → 22 ≤ length f → slice_index f 20 < 256 → (h : List ℕ) → length h ≡ length f → slice_index h 20 ≡ slice_index f 20 → slice_index (put_all (hop_words (slice_index f 20) v) h) 20 ≡ slice_index f 20
hop_keeps f None long small h same is = is
hop_keeps f (Some v) long small h same is =
    let word = slice_index f 20 * 256 + v % 256 in
    get_or-set_other (set h 20 (word / 256)) 21 20 (word % 256) 0 (λ e. omega arith) ∙ get_or-set_same h 20 (word / 256) 0 (omega (arith, same, long)) ∙ omega arith

-- the words of a frame's edits behind the hop limit's
abbrev rest_of : Edits → List ℕ → List Write
rest_of e f = addresses e ++ (ports e 54 ++ (record { at = checksum_at f; word = transport_checksum e f } ∷ []))

last_rises : (e : Edits) (f : List ℕ) → Rises 60 (checksum_at f + 2) (record { at = checksum_at f; word = transport_checksum e f } ∷ [])
last_rises e f = let pl = place f in (pl.apart, omega arith)

rest_rises : (e : Edits) (f : List ℕ) → Rises 22 (checksum_at f + 2) (rest_of e f)
rest_rises e f =
    let last : List Write = record { at = checksum_at f; word = transport_checksum e f } ∷ [] in
    rises_more 22 54 (checksum_at f + 2) (addresses e) (ports e 54 ++ last) (addresses_rise e)
    (rises_more 54 58 (checksum_at f + 2) (ports e 54) last (ports_rise e 54) (rises_from 58 60 (checksum_at f + 2) last (omega arith) (last_rises e f)))

behind_rises : (e : Edits) (f : List ℕ) → Rises 20 (checksum_at f + 2) (hops e f ++ rest_of e f)
behind_rises e f = rises_more 20 22 (checksum_at f + 2) (hops e f) (rest_of e f) (hop_rises (slice_index f 20) e.ttl) (rest_rises e f)

front_rises : (e : Edits) (f : List ℕ) → Rises 0 22 (macs e ++ hops e f)
front_rises e f = rises_more 0 12 22 (macs e) (hops e f) (macs_rise e) (rises_from 12 20 22 (hops e f) (omega arith) (hop_rises (slice_index f 20) e.ttl))

before_last : (e : Edits) (f : List ℕ) → Rises 0 58 (macs e ++ (hops e f ++ (addresses e ++ ports e 54)))
before_last e f =
    let others : Rises 22 58 (addresses e ++ ports e 54) = rises_more 22 54 58 (addresses e) (ports e 54) (addresses_rise e) (ports_rise e 54) in
    let ts : Rises 20 58 (hops e f ++ (addresses e ++ ports e 54)) = rises_more 20 22 58 (hops e f) (addresses e ++ ports e 54) (hop_rises (slice_index f 20) e.ttl) others in
    rises_more 0 12 58 (macs e) (hops e f ++ (addresses e ++ ports e 54)) (macs_rise e) (rises_from 12 20 58 (hops e f ++ (addresses e ++ ports e 54)) (omega arith) ts)

same : (e : Edits) (f : List ℕ) → Known f → Same e f (edited e f)
unfolding edited
same e f is =
    let at = checksum_at f in
    let m = macs e in
    let t = hops e f in
    let a = addresses e in
    let p = ports e 54 in
    let w : Write = record { at = at; word = transport_checksum e f } in
    let rest = hops e f ++ rest_of e f in
    let first = put_all m f in
    let most = put_all (m ++ (t ++ (a ++ p))) f in
    let rises = behind_rises e f in
    let by_macs = put_more m rest f in
    let last = by_last f m t a p (w ∷ []) in
    record {
      total = ap (λ (h : List ℕ). number_at h 18 2) by_macs ∙ word_below first rest 20 (at + 2) 18 (omega arith) rises ∙ word_above f m 0 12 18 (omega arith) (macs_rise e);
      proto = ap (λ (h : List ℕ). get_or h 20 0) (by_hop f m t a p (w ∷ [])) ∙ byte_below (put_all t first) (rest_of e f) 22 (at + 2) 20 (omega arith) (rest_rises e f) ∙ hop_keeps f e.ttl (omega (arith, is.header)) is.proto first (all_long f m) (byte_above f m 0 12 20 (omega arith) (macs_rise e));
      own = ap (λ (h : List ℕ). number_at h 58 2) last ∙ word_below most (w ∷ []) 60 (at + 2) 58 (omega arith) (last_rises e f) ∙ word_above f (m ++ (t ++ (a ++ p))) 0 58 58 (omega arith) (before_last e f);
      long = all_long f (m ++ rest);
      sum = ap (λ (h : List ℕ). number_at h at 2) last ∙ word_read most w (omega (arith, all_long f (m ++ (t ++ (a ++ p))), is.checksum));
    }

pub transport_right_stays : (e : Edits) (f : List ℕ) → Known f → TransportKeepsRight e f → IsTransportRight f → IsTransportRight (edited e f)
unfolding edited
transport_right_stays e f is keeps was =
    let n = segment_length f in
    let at = checksum_at f in
    let g = edited e f in
    let st = same e f is in
    let pl = place f in
    let m = macs e in
    let t = hops e f in
    let a = addresses e in
    let p = ports e 54 in
    let new = transport_checksum e f in
    let eu : is_udp g ≡ is_udp f = ap (λ (k : ℕ). eqb k 17) st.proto in
    let ec : checksum_at g ≡ at = ap (λ (b : Bool). cond b 60 70) eu in
    let en : segment_length g ≡ n = ap (λ (b : Bool). cond b (number_at g 58 2) (number_at g 18 2)) eu ∙ ap (λ (k : ℕ). cond (is_udp f) k (number_at g 18 2)) st.own ∙ ap (λ (k : ℕ). cond (is_udp f) (number_at f 58 2) k) st.total in
    let core = transport_stays f 22 32 54 n at pl.k new (slice_index f 20) (m ++ t) a p (omega arith) (omega arith) was.whole pl.apart pl.even was.holds is.some_proto (front_rises e f) (addresses_rise e) (addresses_even e) (ports_rise e 54) (ports_even e 54) keeps was.right g (by_segment f m t a p (record { at = at; word = new } ∷ [])) in
    record {
      holds = subst (λ (k : ℕ). checksum_at g + 2 ≤ 54 + k) (sym en) (subst (λ (k : ℕ). k + 2 ≤ 54 + n) (sym ec) was.holds);
      whole = subst (λ (k : ℕ). 54 + segment_length g ≤ k) (sym st.long) (subst (λ (k : ℕ). 54 + k ≤ length f) (sym en) was.whole);
      some = λ udp zero. with_checksum (is_udp f) (number_at f at 2) (updated f at (addresses e ++ ports e 54)) (sym eu ∙ udp) (was.some (sym eu ∙ udp)) (sym st.sum ∙ ap (λ (k : ℕ). number_at g k 2) (sym ec) ∙ zero);
      right = sum_at g 22 32 (slice_index f 20) 54 n (slice_index g 20) 54 (segment_length g) st.proto refl en core;
    }
