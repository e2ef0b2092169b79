-- A packet whose frame is edited where it is gathered.
use Rattle.std.proofs.Common.{◌≡◌, ℕ, ◌+◌, ◌≤◌, Bool, true, false, refl, List, ◌++◌, length, take, drop, ap, sym, subst, ◌∙◌, append_assoc, length-append, arith}
use Rattle.std.specs.Prelude.{if◌then◌else◌}
use Rattle.std.proofs.lemmas.List.{take_at, drop_at, take-append-drop, length-take-le}
use Rattle.nf_base.specs.declared.done.Edits.{Edits}
use Rattle.capture_format.specs.declared.format.CaptureFormat.{CaptureFormat}
use Rattle.capture_format.specs.Written.{packet_bytes, lead_length, packet_length}
use Rattle.capture_format.specs.Laws.{IsAround}
use Rattle.capture_format.proofs.Around.{around}
use Rattle.frame_ip.specs.Frame.{is_handled}
use Rattle.frame_ip.specs.Edit.{IsUnedited, edited}
use Rattle.frame_ip.proofs.Ones.{AreBytes}
use Rattle.frame_ip.proofs.Unedited.{edited_none}
use Rattle.stream_run.specs.Texts.{with_edits}

-- what a buffer holds when a loan of all its bytes is back
pub bytes_back : (n : ℕ) (ys xs : List ℕ) → length ys ≡ n → take n (ys ++ drop (length ys) xs) ≡ ys
bytes_back n ys xs e = take_at ys (drop (length ys) xs) n e

-- a frame into which nothing is edited
either_same : {A : Type 0} (b : Bool) (x y : A) → x ≡ y → (if b then x else y) ≡ y
either_same true x y e = e
either_same false x y e = refl

pub unedited : (e : Edits) (f : List ℕ) → AreBytes f → IsUnedited e → with_edits e f ≡ f
unfolding with_edits
unedited e f bytes none = either_same (is_handled f) (edited e f) f (edited_none e f bytes none)

-- ---- a frame that stands in a packet

three : (a b c d e : List ℕ) → a ++ ((b ++ (c ++ d)) ++ e) ≡ (a ++ b) ++ (c ++ (d ++ e))
three a b c d e = simp append_assoc

four : (a b c d e : List ℕ) → (a ++ b) ++ (c ++ (d ++ e)) ≡ a ++ ((b ++ (c ++ d)) ++ e)
four a b c d e = sym (three a b c d e)

-- the frame of a packet, where it stands
mid_is : (format : CaptureFormat) (time original : ℕ) (front frame bytes rest : List ℕ) (start : ℕ)
    → bytes ≡ front ++ (packet_bytes format time original frame ++ rest) → start ≡ length front + lead_length format
    → take (length frame) (drop start bytes) ≡ frame
mid_is format time original front frame bytes rest start is at =
    let x : IsAround format time original (length frame) = around format time original (length frame) in
    let behind = x.back ++ rest in
    let parts : bytes ≡ (front ++ x.front) ++ (frame ++ behind) = is ∙ ap (λ (p : List ℕ). front ++ (p ++ rest)) (x.parts frame refl) ∙ three front x.front frame x.back rest in
    let count : length (front ++ x.front) ≡ start = omega (arith, at, x.front_long, length-append front x.front) in
    ap (take (length frame)) (ap (drop start) parts ∙ drop_at (front ++ x.front) (frame ++ behind) start count) ∙ take_at frame behind (length frame) refl

pub packet_edited : (format : CaptureFormat) (time original : ℕ) (e : Edits) (front frame bytes new rest : List ℕ) (start : ℕ)
    → bytes ≡ front ++ (packet_bytes format time original frame ++ rest) → start ≡ length front + lead_length format
    → new ≡ take start bytes ++ (with_edits e (take (length frame) (drop start bytes)) ++ drop (length frame) (drop start bytes))
    → length (with_edits e (take (length frame) (drop start bytes))) ≡ length (take (length frame) (drop start bytes))
    → new ≡ front ++ (packet_bytes format time original (with_edits e frame) ++ rest)
packet_edited format time original e front frame bytes new rest start is at put long =
    let x : IsAround format time original (length frame) = around format time original (length frame) in
    let behind = x.back ++ rest in
    let parts : bytes ≡ (front ++ x.front) ++ (frame ++ behind) = is ∙ ap (λ (p : List ℕ). front ++ (p ++ rest)) (x.parts frame refl) ∙ three front x.front frame x.back rest in
    let count : length (front ++ x.front) ≡ start = omega (arith, at, x.front_long, length-append front x.front) in
    let before : take start bytes ≡ front ++ x.front = ap (take start) parts ∙ take_at (front ++ x.front) (frame ++ behind) start count in
    let after : drop start bytes ≡ frame ++ behind = ap (drop start) parts ∙ drop_at (front ++ x.front) (frame ++ behind) start count in
    let mid : take (length frame) (drop start bytes) ≡ frame = ap (take (length frame)) after ∙ take_at frame behind (length frame) refl in
    let past : drop (length frame) (drop start bytes) ≡ behind = ap (drop (length frame)) after ∙ drop_at frame behind (length frame) refl in
    let same : length (with_edits e frame) ≡ length frame = subst (λ (xs : List ℕ). length (with_edits e xs) ≡ length xs) mid long in
    put
    ∙ ap (λ (xs : List ℕ). xs ++ (with_edits e (take (length frame) (drop start bytes)) ++ drop (length frame) (drop start bytes))) before
    ∙ ap (λ (xs : List ℕ). (front ++ x.front) ++ (with_edits e xs ++ drop (length frame) (drop start bytes))) mid
    ∙ ap (λ (xs : List ℕ). (front ++ x.front) ++ (with_edits e frame ++ xs)) past
    ∙ four front x.front (with_edits e frame) x.back rest
    ∙ ap (λ (p : List ℕ). front ++ (p ++ rest)) (sym (x.parts (with_edits e frame) same))

-- how many bytes a packet takes
pub packet_long : (format : CaptureFormat) (time original : ℕ) (frame : List ℕ) → length (packet_bytes format time original frame) ≡ packet_length format (length frame)
packet_long format time original frame =
    let x : IsAround format time original (length frame) = around format time original (length frame) in
    omega (arith, ap (λ (t : List ℕ). length t) (x.parts frame refl), length-append x.front (frame ++ x.back), length-append frame x.back, x.all_long)

-- a packet that was put into some room
pub packet_put : (format : CaptureFormat) (time original : ℕ) (e : Edits) (front frame room new : List ℕ) (start end : ℕ)
    → take end room ≡ front ++ packet_bytes format time original frame → end ≤ length room → start ≡ length front + lead_length format
    → new ≡ take start room ++ (with_edits e (take (length frame) (drop start room)) ++ drop (length frame) (drop start room))
    → length (with_edits e (take (length frame) (drop start room))) ≡ length (take (length frame) (drop start room))
    → take end new ≡ front ++ packet_bytes format time original (with_edits e frame)
packet_put format time original e front frame room new start end put within at edit long =
    let x : IsAround format time original (length frame) = around format time original (length frame) in
    let rest = drop end room in
    let whole : room ≡ front ++ (packet_bytes format time original frame ++ rest) =
    sym (take-append-drop end room) ∙ ap (λ (xs : List ℕ). xs ++ rest) put ∙ append_assoc front (packet_bytes format time original frame) rest in
    let now : new ≡ front ++ (packet_bytes format time original (with_edits e frame) ++ rest) = packet_edited format time original e front frame room new rest start whole at edit long in
    let count : length (front ++ packet_bytes format time original frame) ≡ end = sym (ap (λ (t : List ℕ). length t) put) ∙ length-take-le end room within in
    let mid : take (length frame) (drop start room) ≡ frame = mid_is format time original front frame room rest start whole at in
    let same : length (with_edits e frame) ≡ length frame = subst (λ (xs : List ℕ). length (with_edits e xs) ≡ length xs) mid long in
    let long_now : length (front ++ packet_bytes format time original (with_edits e frame)) ≡ end = omega (
      arith,
      count,
      same,
      length-append front (packet_bytes format time original frame),
      length-append front (packet_bytes format time original (with_edits e frame)),
      packet_long format time original frame,
      ap (packet_length format) same,
      packet_long format time original (with_edits e frame),
    ) in
    ap (take end) (now ∙ sym (append_assoc front (packet_bytes format time original (with_edits e frame)) rest))
    ∙ take_at (front ++ packet_bytes format time original (with_edits e frame)) rest end long_now
