-- The checksums of a whole IPv4 frame stay right under its edits.
use Rattle.std.proofs.Common.{◌≡◌, ℕ, suc, ◌+◌, ◌-◌, ◌*◌, ◌/◌, ◌%◌, ◌<◌, ◌≤◌, Bool, true, false, cond, eqb, List, [], ◌∷◌, ◌++◌, length, set, get_or, slice_index, Option, Some, None, refl, ap, sym, subst, ◌∙◌, arith}
use Rattle.std.proofs.lemmas.List.{length-set, get_or-set_same}
use Rattle.nf_base.specs.declared.done.Edits.{Edits}
use Rattle.frame_ip.specs.Bytes.{number_at}
use Rattle.frame_ip.specs.FourFrame.{header_words, transport_at}
use Rattle.frame_ip.specs.Writes.{Write, put_all, macs, ports}
use Rattle.frame_ip.specs.Checksum.{fold, updated}
use Rattle.frame_ip.specs.FourEdit.{address_words, ttl_words, ttl, addresses, is_udp, checksum_at, ip_checksum, transport_checksum, edited}
use Rattle.frame_ip.specs.Sums.{word_sum, part}
use Rattle.frame_ip.specs.FourSums.{IsIpRight, segment_length, IsTransportRight, IpKeepsRight, TransportKeepsRight}
use Rattle.frame_ip.proofs.Writing.{put_more}
use Rattle.frame_ip.proofs.Parts.{double, word_read}
use Rattle.frame_ip.proofs.Rising.{Rises, Even, rises_from, rises_to, rises_more, even_more, all_long, byte_below, byte_above, word_below, word_above}
use Rattle.frame_ip.proofs.Exchanged.{ip_stays, transport_stays}
use Rattle.frame_ip.proofs.Standing.{macs_rise, ports_rise, ports_even, with_checksum, sum_at}

-- what is known of a handled frame
pub record Known (f : List ℕ) : Type 0 where
  pub words : 5 ≤ header_words f
  pub version : 0 < slice_index f 14
  pub some_proto : 0 < slice_index f 23
  pub proto : slice_index f 23 < 256
  pub header : transport_at f + 8 ≤ length f
  pub checksum : checksum_at f + 2 ≤ length f

-- ---- where words stand

ttl_rises : (proto : ℕ) (v : Option ℕ) → Rises 22 24 (ttl_words proto v)
ttl_rises proto None = omega arith
ttl_rises proto (Some v) = (omega arith, omega arith)

address_rises : (at : ℕ) (v : Option ℕ) → Rises at (at + 4) (address_words at v)
address_rises at None = omega arith
address_rises at (Some v) = (omega arith, (omega arith, omega arith))

ttl_even : (proto : ℕ) (v : Option ℕ) → Even 14 (ttl_words proto v)
ttl_even proto None = tt
ttl_even proto (Some v) = ((4, refl), tt)

address_even : (s at k : ℕ) (v : Option ℕ) → at ≡ s + double k → Even s (address_words at v)
address_even s at k None e = tt
address_even s at k (Some v) e = ((k, e), ((suc k, omega (arith, e)), tt))

addresses_rise : (e : Edits) → Rises 26 34 (addresses e)
addresses_rise e = rises_more 26 30 34 (address_words 26 e.src_ip) (address_words 30 e.dst_ip) (address_rises 26 e.src_ip) (address_rises 30 e.dst_ip)

addresses_even : (e : Edits) (s k : ℕ) → 26 ≡ s + double k → Even s (addresses e)
addresses_even e s k is = even_more s (address_words 26 e.src_ip) (address_words 30 e.dst_ip) (address_even s 26 k e.src_ip is) (address_even s 30 (suc (suc k)) e.dst_ip (omega (arith, is)))

-- where the checksum of TCP or UDP stands behind its header's begin
record Place (s at : ℕ) : Type 0 where
  pub k : ℕ
  pub even : at ≡ s + double k
  pub apart : s + 6 ≤ at

place_of : (b : Bool) (s : ℕ) → Place s (cond b (s + 6) (s + 16))
place_of true s = record { k = 3; even = refl; apart = omega arith }
place_of false s = record { k = 8; even = refl; apart = omega arith }

place : (f : List ℕ) → Place (transport_at f) (checksum_at f)
place f = place_of (is_udp f) (transport_at f)

-- ---- one list of words and then another

module _ (f : List ℕ) (m t i a p c : List Write) where
  by_header : put_all (m ++ (t ++ (i ++ (a ++ (p ++ c))))) f ≡ put_all (p ++ c) (put_all (t ++ (i ++ a)) (put_all m f))
  by_header = simp put_more

  by_segment : put_all (m ++ (t ++ (i ++ (a ++ (p ++ c))))) f ≡ put_all (p ++ c) (put_all a (put_all (m ++ (t ++ i)) f))
  by_segment = simp put_more

  by_last : put_all (m ++ (t ++ (i ++ (a ++ (p ++ c))))) f ≡ put_all c (put_all (m ++ (t ++ (i ++ (a ++ p)))) f)
  by_last = simp put_more

  by_ttl : put_all (m ++ (t ++ (i ++ (a ++ (p ++ c))))) f ≡ put_all (i ++ (a ++ (p ++ c))) (put_all t (put_all m f))
  by_ttl = simp put_more

-- ---- what stays

-- a frame g in which f's headers are but for what is edited
record Same (e : Edits) (f g : List ℕ) : Type 0 where
  pub words : header_words g ≡ header_words f
  pub total : number_at g 16 2 ≡ number_at f 16 2
  pub proto : slice_index g 23 ≡ slice_index f 23
  pub own : number_at g (transport_at f + 4) 2 ≡ number_at f (transport_at f + 4) 2
  pub long : length g ≡ length f
  pub sum : number_at g (checksum_at f) 2 ≡ transport_checksum e f

-- the protocol, which stands in the TTL's word
ttl_keeps : (f : List ℕ) (v : Option ℕ) → 24 ≤ length f → slice_index f 23 < 256 → (h : List ℕ) → length h ≡ length f → slice_index h 23 ≡ slice_index f 23 → slice_index (put_all (ttl_words (slice_index f 23) v) h) 23 ≡ slice_index f 23
ttl_keeps f None long small h same is = is
ttl_keeps f (Some v) long small h same is =
    let word = v % 256 * 256 + slice_index f 23 in
    get_or-set_same (set h 22 (word / 256)) 23 (word % 256) 0 (omega (arith, length-set h 22 (word / 256), same)) ∙ omega arith

-- the words of a frame's edits behind the MAC addresses
abbrev behind : Edits → List ℕ → List Write
behind e f = ttl e f ++ (record { at = 24; word = ip_checksum e f } ∷ (addresses e ++ (ports e (transport_at f) ++ (record { at = checksum_at f; word = transport_checksum e f } ∷ []))))

last_rises : (e : Edits) (f : List ℕ) → Rises (transport_at f + 6) (checksum_at f + 2) (record { at = checksum_at f; word = transport_checksum e f } ∷ [])
last_rises e f = let pl = place f in (pl.apart, omega arith)

segment_rises : (e : Edits) (f : List ℕ) → Rises (transport_at f) (checksum_at f + 2) (ports e (transport_at f) ++ (record { at = checksum_at f; word = transport_checksum e f } ∷ []))
segment_rises e f =
    let s = transport_at f in
    let last : List Write = record { at = checksum_at f; word = transport_checksum e f } ∷ [] in
    rises_more s (s + 4) (checksum_at f + 2) (ports e s) last (ports_rise e s) (rises_from (s + 4) (s + 6) (checksum_at f + 2) last (omega arith) (last_rises e f))

-- behind the TTL's word
rest_rises : (e : Edits) (f : List ℕ) → Known f → Rises 24 (checksum_at f + 2) (record { at = 24; word = ip_checksum e f } ∷ (addresses e ++ (ports e (transport_at f) ++ (record { at = checksum_at f; word = transport_checksum e f } ∷ []))))
rest_rises e f is =
    let s = transport_at f in
    let ws = ports e s ++ (record { at = checksum_at f; word = transport_checksum e f } ∷ []) in
    (omega arith, rises_more 26 34 (checksum_at f + 2) (addresses e) ws (addresses_rise e) (rises_from 34 s (checksum_at f + 2) ws (omega (arith, is.words)) (segment_rises e f)))

behind_rises : (e : Edits) (f : List ℕ) → Known f → Rises 22 (checksum_at f + 2) (behind e f)
behind_rises e f is = rises_more 22 24 (checksum_at f + 2) (ttl e f) _ (ttl_rises (slice_index f 23) e.ttl) (rest_rises e f is)

before_last : (e : Edits) (f : List ℕ) → Known f → Rises 0 (transport_at f + 4) (macs e ++ (ttl e f ++ (record { at = 24; word = ip_checksum e f } ∷ (addresses e ++ ports e (transport_at f)))))
before_last e f is =
    let s = transport_at f in
    let ps = ports e s in
    let others : Rises 26 (s + 4) (addresses e ++ ps) = rises_more 26 34 (s + 4) (addresses e) ps (addresses_rise e) (rises_from 34 s (s + 4) ps (omega (arith, is.words)) (ports_rise e s)) in
    let w : Write = record { at = 24; word = ip_checksum e f } in
    let ts : Rises 22 (s + 4) (ttl e f ++ (w ∷ (addresses e ++ ps))) = rises_more 22 24 (s + 4) (ttl e f) (w ∷ (addresses e ++ ps)) (ttl_rises (slice_index f 23) e.ttl) (omega arith, others) in
    rises_more 0 12 (s + 4) (macs e) (ttl e f ++ (w ∷ (addresses e ++ ps))) (macs_rise e) (rises_from 12 22 (s + 4) (ttl e f ++ (w ∷ (addresses e ++ ps))) (omega arith) ts)

same : (e : Edits) (f : List ℕ) → Known f → Same e f (edited e f)
unfolding edited
same e f is =
    let s = transport_at f in
    let at = checksum_at f in
    let m = macs e in
    let t = ttl e f in
    let a = addresses e in
    let p = ports e s in
    let i : List Write = record { at = 24; word = ip_checksum e f } ∷ [] in
    let w : Write = record { at = at; word = transport_checksum e f } in
    let rest = behind e f in
    let first = put_all m f in
    let most = put_all (m ++ (t ++ (i ++ (a ++ p)))) f in
    let rises = behind_rises e f is in
    let by_macs = put_more m rest f in
    let last = by_last f m t i a p (w ∷ []) in
    record {
      words = ap (λ (h : List ℕ). get_or h 14 0 % 16) by_macs ∙ ap (λ (n : ℕ). n % 16) (byte_below first rest 22 (at + 2) 14 (omega arith) rises ∙ byte_above f m 0 12 14 (omega arith) (macs_rise e));
      total = ap (λ (h : List ℕ). number_at h 16 2) by_macs ∙ word_below first rest 22 (at + 2) 16 (omega arith) rises ∙ word_above f m 0 12 16 (omega arith) (macs_rise e);
      proto = ap (λ (h : List ℕ). get_or h 23 0) (by_ttl f m t i a p (w ∷ [])) ∙ byte_below (put_all t first) (i ++ (a ++ (p ++ (w ∷ [])))) 24 (at + 2) 23 (omega arith) (rest_rises e f is) ∙ ttl_keeps f e.ttl (omega (arith, is.words, is.header)) is.proto first (all_long f m) (byte_above f m 0 12 23 (omega arith) (macs_rise e));
      own = ap (λ (h : List ℕ). number_at h (s + 4) 2) last ∙ word_below most (w ∷ []) (s + 6) (at + 2) (s + 4) (omega arith) (last_rises e f) ∙ word_above f (m ++ (t ++ (i ++ (a ++ p)))) 0 (s + 4) (s + 4) (omega arith) (before_last e f is);
      long = all_long f (m ++ rest);
      sum = ap (λ (h : List ℕ). number_at h at 2) last ∙ word_read most w (omega (arith, all_long f (m ++ (t ++ (i ++ (a ++ p)))), is.checksum));
    }

-- ---- the checksums

pub ip_right_stays : (e : Edits) (f : List ℕ) → Known f → IpKeepsRight e f → IsIpRight f → IsIpRight (edited e f)
unfolding edited
ip_right_stays e f is keeps right =
    let s = transport_at f in
    let n = 4 * header_words f in
    let m = macs e in
    let t = ttl e f in
    let a = addresses e in
    let new = ip_checksum e f in
    let i : List Write = record { at = 24; word = new } ∷ [] in
    let last : List Write = record { at = checksum_at f; word = transport_checksum e f } ∷ [] in
    let rest = ports e s ++ last in
    let core : fold (word_sum (part 14 n (edited e f))) ≡ 65535 =
    subst (λ (h : List ℕ). fold (word_sum (part 14 n h)) ≡ 65535) (sym (by_header f m t i a (ports e s) last))
    (ip_stays f n (checksum_at f + 2) new m t a rest (omega (arith, is.words)) (omega (arith, is.header)) is.version (rises_to 0 12 14 m (omega arith) (macs_rise e)) (ttl_rises (slice_index f 23) e.ttl) (ttl_even (slice_index f 23) e.ttl) (addresses_rise e) (addresses_even e 14 6 refl) (segment_rises e f) keeps right) in
    let st = same e f is in
    subst (λ (k : ℕ). fold (word_sum (part 14 (4 * k) (edited e f))) ≡ 65535) (sym st.words) core

pub transport_right_stays : (e : Edits) (f : List ℕ) → Known f → TransportKeepsRight e f → IsTransportRight f → IsTransportRight (edited e f)
unfolding edited
transport_right_stays e f is keeps was =
    let s = transport_at f in
    let n = segment_length f in
    let at = checksum_at f in
    let g = edited e f in
    let st = same e f is in
    let pl = place f in
    let m = macs e in
    let t = ttl e f in
    let a = addresses e in
    let p = ports e s in
    let new = transport_checksum e f in
    let i : List Write = record { at = 24; word = ip_checksum e f } ∷ [] in
    let et : transport_at g ≡ s = ap (λ (k : ℕ). 14 + 4 * k) st.words in
    let eu : is_udp g ≡ is_udp f = ap (λ (k : ℕ). eqb k 17) st.proto in
    let ec : checksum_at g ≡ at = ap (λ (b : Bool). cond b (transport_at g + 6) (transport_at g + 16)) eu ∙ ap (λ (k : ℕ). cond (is_udp f) (k + 6) (k + 16)) et in
    let own : number_at g (transport_at g + 4) 2 ≡ number_at f (s + 4) 2 = ap (λ (k : ℕ). number_at g (k + 4) 2) et ∙ st.own in
    let left : number_at g 16 2 - 4 * header_words g ≡ number_at f 16 2 - 4 * header_words f = ap (λ (k : ℕ). k - 4 * header_words g) st.total ∙ ap (λ (k : ℕ). number_at f 16 2 - 4 * k) st.words in
    let en : segment_length g ≡ n = ap (λ (b : Bool). cond b (number_at g (transport_at g + 4) 2) (number_at g 16 2 - 4 * header_words g)) eu ∙ ap (λ (k : ℕ). cond (is_udp f) k (number_at g 16 2 - 4 * header_words g)) own ∙ ap (λ (k : ℕ). cond (is_udp f) (number_at f (s + 4) 2) k) left in
    let front : Rises 0 26 (m ++ (t ++ i)) = rises_more 0 12 26 m (t ++ i) (macs_rise e) (rises_from 12 22 26 (t ++ i) (omega arith) (rises_more 22 24 26 t i (ttl_rises (slice_index f 23) e.ttl) (omega arith, omega arith))) in
    let core = transport_stays f 26 8 s n at pl.k new (slice_index f 23) (m ++ (t ++ i)) a p (omega arith) (omega (arith, is.words)) (omega (arith, was.whole)) pl.apart pl.even was.holds is.some_proto front (addresses_rise e) (addresses_even e 26 0 refl) (ports_rise e s) (ports_even e s) keeps was.right g (by_segment f m t i a p (record { at = at; word = new } ∷ [])) in
    record {
      holds = subst (λ (k : ℕ). checksum_at g + 2 ≤ k) (sym (ap (λ (k : ℕ). k + segment_length g) et ∙ ap (λ (k : ℕ). s + k) en)) (subst (λ (k : ℕ). k + 2 ≤ s + n) (sym ec) was.holds);
      whole = subst (λ (k : ℕ). transport_at g + segment_length g ≤ k) (sym st.long) (subst (λ (k : ℕ). k ≤ length f) (sym (ap (λ (k : ℕ). k + segment_length g) et ∙ ap (λ (k : ℕ). s + k) en)) was.whole);
      some = λ udp zero. with_checksum (is_udp f) (number_at f at 2) (updated f at (addresses e ++ ports e s)) (sym eu ∙ udp) (was.some (sym eu ∙ udp)) (sym st.sum ∙ ap (λ (k : ℕ). number_at g k 2) (sym ec) ∙ zero);
      right = sum_at g 26 8 (slice_index f 23) s n (slice_index g 23) (transport_at g) (segment_length g) st.proto et en core;
    }
