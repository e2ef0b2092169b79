-- Words that are written in the order in which they stand.
use Rattle.std.proofs.Common.{◌≡◌, ℕ, ◌+◌, ◌*◌, ◌<◌, ◌≤◌, List, [], ◌∷◌, ◌++◌, length, get_or, refl, ap, ◌∙◌, arith}
use Rattle.frame_ip.specs.Bytes.{number_at}
use Rattle.frame_ip.specs.Writes.{Write, put, put_all}
use Rattle.frame_ip.specs.Sums.{old_words, new_words, word_sum, part}
use Rattle.frame_ip.proofs.Parts.{double, word_is, part_put, part_below, part_above, part_first, byte_stays, put_long}

-- words one behind the other, from an offset on and up to another
abbrev pub Rises : ℕ → ℕ → List Write → Type 0
Rises lo hi [] = lo ≤ hi
Rises lo hi (w ∷ ws) = (lo ≤ w.at) × Rises (w.at + 2) hi ws

-- all stand an even number of bytes behind an offset
abbrev pub Even : ℕ → List Write → Type 0
Even s [] = Unit {0}
Even s (w ∷ ws) = ((k : ℕ) × (w.at ≡ s + double k)) × Even s ws

pub rises_le : (lo hi : ℕ) (ws : List Write) → Rises lo hi ws → lo ≤ hi
rises_le lo hi [] r = r
rises_le lo hi (w ∷ ws) r = let more = rises_le (w.at + 2) hi ws r.1 in omega (arith, r.0, more)

pub rises_from : (lower lo hi : ℕ) (ws : List Write) → lower ≤ lo → Rises lo hi ws → Rises lower hi ws
rises_from lower lo hi [] le r = omega (arith, le, r)
rises_from lower lo hi (w ∷ ws) le r = (omega (arith, le, r.0), r.1)

pub rises_to : (lo hi higher : ℕ) (ws : List Write) → hi ≤ higher → Rises lo hi ws → Rises lo higher ws
rises_to lo hi higher [] le r = omega (arith, le, r)
rises_to lo hi higher (w ∷ ws) le r = (r.0, rises_to (w.at + 2) hi higher ws le r.1)

pub rises_more : (lo mid hi : ℕ) (a b : List Write) → Rises lo mid a → Rises mid hi b → Rises lo hi (a ++ b)
rises_more lo mid hi [] b p q = rises_from lo mid hi b p q
rises_more lo mid hi (w ∷ a) b p q = (p.0, rises_more (w.at + 2) mid hi a b p.1 q)

pub even_more : (s : ℕ) (a b : List Write) → Even s a → Even s b → Even s (a ++ b)
even_more s [] b p q = q
even_more s (w ∷ a) b p q = (p.0, even_more s a b p.1 q)

pub all_long : (f : List ℕ) (ws : List Write) → length (put_all ws f) ≡ length f
all_long f [] = refl
all_long f (w ∷ ws) = all_long (put w f) ws ∙ put_long f w

-- ---- what stays

pub byte_below : (f : List ℕ) (ws : List Write) (lo hi j : ℕ) → j < lo → Rises lo hi ws → get_or (put_all ws f) j 0 ≡ get_or f j 0
byte_below f [] lo hi j lt r = refl
byte_below f (w ∷ ws) lo hi j lt r = byte_below (put w f) ws (w.at + 2) hi j (omega (arith, lt, r.0)) r.1 ∙ byte_stays f w j (λ e. omega (arith, lt, r.0)) (λ e. omega (arith, lt, r.0))

pub byte_above : (f : List ℕ) (ws : List Write) (lo hi j : ℕ) → hi ≤ j → Rises lo hi ws → get_or (put_all ws f) j 0 ≡ get_or f j 0
byte_above f [] lo hi j le r = refl
byte_above f (w ∷ ws) lo hi j le r =
    let end = rises_le (w.at + 2) hi ws r.1 in
    byte_above (put w f) ws (w.at + 2) hi j le r.1 ∙ byte_stays f w j (λ e. omega (arith, le, end)) (λ e. omega (arith, le, end))

word_same : (f g : List ℕ) (at : ℕ) → get_or g at 0 ≡ get_or f at 0 → get_or g (at + 1) 0 ≡ get_or f (at + 1) 0 → number_at g at 2 ≡ number_at f at 2
word_same f g at p q = omega (arith, word_is f at, word_is g at, p, q)

pub word_below : (f : List ℕ) (ws : List Write) (lo hi at : ℕ) → at + 2 ≤ lo → Rises lo hi ws → number_at (put_all ws f) at 2 ≡ number_at f at 2
word_below f ws lo hi at le r = word_same f (put_all ws f) at (byte_below f ws lo hi at (omega arith) r) (byte_below f ws lo hi (at + 1) (omega arith) r)

pub word_above : (f : List ℕ) (ws : List Write) (lo hi at : ℕ) → hi ≤ at → Rises lo hi ws → number_at (put_all ws f) at 2 ≡ number_at f at 2
word_above f ws lo hi at le r = word_same f (put_all ws f) at (byte_above f ws lo hi at le r) (byte_above f ws lo hi (at + 1) (omega arith) r)

-- the words that later ones replace
pub old_after : (f : List ℕ) (ws : List Write) (lo mid hi : ℕ) (vs : List Write) → Rises lo mid ws → Rises mid hi vs → old_words (put_all ws f) vs ≡ old_words f vs
old_after f ws lo mid hi [] r q = refl
old_after f ws lo mid hi (v ∷ vs) r q =
    let one = word_above f ws lo mid v.at q.0 r in
    let more = old_after f ws lo mid hi vs r (rises_from mid (v.at + 2) hi vs (omega (arith, q.0)) q.1) in
    omega (arith, one, more)

old_after_one : (f : List ℕ) (w : Write) (hi : ℕ) (vs : List Write) → Rises (w.at + 2) hi vs → old_words (put w f) vs ≡ old_words f vs
old_after_one f w hi vs q = old_after f (w ∷ []) w.at (w.at + 2) hi vs (omega arith, omega arith) q

pub old_more : (f : List ℕ) (a b : List Write) → old_words f (a ++ b) ≡ old_words f a + old_words f b
old_more f [] b = omega arith
old_more f (w ∷ a) b = let more = old_more f a b in omega (arith, more)

pub new_more : (a b : List Write) → new_words (a ++ b) ≡ new_words a + new_words b
new_more [] b = omega arith
new_more (w ∷ a) b = let more = new_more a b in omega (arith, more)

-- ---- sums of a part

part_after : (s c : ℕ) (f : List ℕ) (ws : List Write) (lo : ℕ) → Rises lo s ws → part s c (put_all ws f) ≡ part s c f
part_after s c f [] lo r = refl
part_after s c f (w ∷ ws) lo r = part_after s c (put w f) ws (w.at + 2) r.1 ∙ part_below s c f w (rises_le (w.at + 2) s ws r.1)

part_before : (s c : ℕ) (f : List ℕ) (ws : List Write) (lo hi : ℕ) → s + c ≤ lo → Rises lo hi ws → part s c (put_all ws f) ≡ part s c f
part_before s c f [] lo hi le r = refl
part_before s c f (w ∷ ws) lo hi le r = part_before s c (put w f) ws (w.at + 2) hi (omega (arith, le, r.0)) r.1 ∙ part_above s c f w (omega (arith, le, r.0))

exchange : (s c : ℕ) (f : List ℕ) (ws : List Write) (lo : ℕ) → Rises lo (s + c) ws → Even s ws → s + c ≤ length f → word_sum (part s c (put_all ws f)) + old_words f ws ≡ word_sum (part s c f) + new_words ws
exchange s c f [] lo r even long = refl
exchange s c f (w ∷ ws) lo r even long =
    let one = part_put s c f w even.0.0 even.0.1 (rises_le (w.at + 2) (s + c) ws r.1) long in
    let more = exchange s c (put w f) ws (w.at + 2) r.1 even.1 (omega (arith, put_long f w, long)) in
    let kept = old_after_one f w (s + c) ws r.1 in
    omega (arith, one, more, kept)

-- The sum of a part into which words are written, where others are written in front of it and behind it.
pub between : (s c hi : ℕ) (f : List ℕ) (below inside above : List Write) → Rises 0 s below → Rises s (s + c) inside → Even s inside → Rises (s + c) hi above → s + c ≤ length f
    → word_sum (part s c (put_all above (put_all inside (put_all below f)))) + old_words f inside ≡ word_sum (part s c f) + new_words inside
between s c hi f below inside above rb ri even ra long =
    let first = put_all below f in
    let a = ap word_sum (part_before s c (put_all inside first) above (s + c) hi (omega arith) ra) in
    let b = exchange s c first inside s ri even (omega (arith, all_long f below, long)) in
    let d = ap word_sum (part_after s c f below 0 rb) in
    let kept = old_after f below 0 s (s + c) inside rb ri in
    omega (arith, a, b, d, kept)

-- what the words of a part come to without those that are to be replaced; its first byte stays where it is
-- none of them
pub record Others (s c : ℕ) (f : List ℕ) (ws : List Write) (lo : ℕ) : Type 0 where
  pub rest : ℕ
  pub all : rest + old_words f ws ≡ word_sum (part s c f)
  pub first : s < lo → 256 * get_or f s 0 ≤ rest

pub others : (s c : ℕ) (f : List ℕ) (ws : List Write) (lo : ℕ) → 0 < c → Rises lo (s + c) ws → Even s ws → s + c ≤ length f → Others s c f ws lo
others s c f [] lo some r even long = record { rest = word_sum (part s c f); all = omega arith; first = λ p. part_first s c f some }
others s c f (w ∷ ws) lo some r even long =
    let z : Write = record { at = w.at; word = 0 } in
    let one = part_put s c f z even.0.0 even.0.1 (rises_le (w.at + 2) (s + c) ws r.1) long in
    let more = others s c (put z f) ws (w.at + 2) some r.1 even.1 (omega (arith, put_long f z, long)) in
    let kept = old_after_one f z (s + c) ws r.1 in
    record {
      rest = more.rest;
      all = omega (arith, one, more.all, kept);
      first = λ p. omega (arith, more.first (omega (arith, p, r.0)), byte_stays f z s (λ e. omega (arith, p, r.0)) (λ e. omega (arith, p, r.0)));
    }
