-- Bytes that are taken in several calls.
use Rattle.std.proofs.Common.{◌≡◌, ◌≢◌, ℕ, ◌+◌, Bool, cond, eqb, List, [], ◌∷◌, ◌++◌, length, drop, Option, Some, None, refl, sym, ap, ◌∙◌, subst, arith}
use Rattle.std.proofs.lemmas.List.{drop-drop}
use Rattle.std.proofs.lemmas.Bool.{eq-eqb, ne_eqb}
use Rattle.pcap_file.specs.Taken.{AreTaken}
use Rattle.packet_feed.specs.declared.ahead.Ahead.TheVariants.{Unread, Held}
use Rattle.packet_feed.specs.Arrivals.{Arrival}
use Rattle.packet_feed.specs.Streams.{Stream}
use Rattle.packet_feed.specs.Taken.{bytes_at, IsAhead, IsTaken, TakesAhead}

pub none_taken : (rest : Option (List ℕ)) → AreTaken 0 rest rest
none_taken None = tt
none_taken (Some bytes) = refl

pub taken_on : (a b : ℕ) (x y z : Option (List ℕ)) → AreTaken a x y → AreTaken b y z → AreTaken (a + b) x z
taken_on a b None None None p q = tt
taken_on a b None None (Some z) p q = absurd q
taken_on a b None (Some y) z p q = absurd p
taken_on a b (Some x) None z p q = absurd p
taken_on a b (Some x) (Some y) None p q = absurd q
taken_on a b (Some x) (Some y) (Some z) p q = q ∙ ap (drop b) p ∙ drop-drop b a x

pub taken_more : (port : ℕ) (given : List Arrival) (old new : Stream) (start before now : Option (List ℕ)) → IsTaken port given old start before → TakesAhead old new before now → IsTaken port given new start now
taken_more port given old new start before now h k = record {
  more = h.more + k.more;
  ahead = k.ahead h.more h.ahead;
  taken =
      let all : 24 + bytes_at port given + h.more + k.more ≡ 24 + bytes_at port given + (h.more + k.more) = omega arith in
      subst (λ (n : ℕ). AreTaken n start now) all (taken_on (24 + bytes_at port given + h.more) k.more start before now h.taken k.taken);
}

bytes_push : (port : ℕ) (given : List Arrival) (a : Arrival) → bytes_at port (given ++ a ∷ []) ≡ bytes_at port given + cond (eqb a.packet.id.port port) (16 + length a.frame) 0
bytes_push port [] a = omega arith
bytes_push port (b ∷ bs) a = let more = bytes_push port bs a in omega arith

-- a packet of another port
pub bytes_other : (port : ℕ) (given : List Arrival) (a : Arrival) → a.packet.id.port ≢ port → bytes_at port (given ++ a ∷ []) ≡ bytes_at port given
bytes_other port given a ne =
    let no : cond (eqb a.packet.id.port port) (16 + length a.frame) 0 ≡ 0 = ap (λ (t : Bool). cond t (16 + length a.frame) 0) (ne_eqb a.packet.id.port port ne) in
    omega (arith, bytes_push port given a)

-- a packet of this port
pub bytes_same : (port : ℕ) (given : List Arrival) (a : Arrival) → a.packet.id.port ≡ port → bytes_at port (given ++ a ∷ []) ≡ bytes_at port given + (16 + length a.frame)
bytes_same port given a e =
    let yes : cond (eqb a.packet.id.port port) (16 + length a.frame) 0 ≡ 16 + length a.frame = ap (λ (t : Bool). cond t (16 + length a.frame) 0) (eq-eqb a.packet.id.port port e) in
    omega (arith, bytes_push port given a)

-- the record that was held was given
pub taken_given : (port : ℕ) (given : List Arrival) (a : Arrival) (old new : Stream) (start now : Option (List ℕ)) → old.ahead ≡ Held → new.ahead ≡ Unread → a.packet.id.port ≡ port → a.frame ≡ old.frame
    → IsTaken port given old start now → IsTaken port (given ++ a ∷ []) new start now
taken_given port given a old new start now held unread e frame h =
    let more : h.more ≡ 16 + length old.frame = subst (λ t. IsAhead t old.frame h.more) held h.ahead in
    let long : length a.frame ≡ length old.frame = ap (λ (xs : List ℕ). length xs) frame in
    record {
      more = 0;
      ahead = subst (λ t. IsAhead t new.frame 0) (sym unread) refl;
      taken =
          let all : 24 + bytes_at port given + h.more ≡ 24 + bytes_at port (given ++ a ∷ []) + 0 = omega (arith, bytes_same port given a e) in
          subst (λ (n : ℕ). AreTaken n start now) all h.taken;
    }

-- a record of another port was given
pub taken_other : (port : ℕ) (given : List Arrival) (a : Arrival) (s : Stream) (start now : Option (List ℕ)) → a.packet.id.port ≢ port → IsTaken port given s start now → IsTaken port (given ++ a ∷ []) s start now
taken_other port given a s start now ne h = record {
  more = h.more;
  ahead = h.ahead;
  taken = subst (λ (n : ℕ). AreTaken (24 + n + h.more) start now) (sym (bytes_other port given a ne)) h.taken;
}
