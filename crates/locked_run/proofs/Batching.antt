-- Packets beside their frames, as there are more.
use Rattle.std.proofs.Common.{◌≡◌, ℕ, zero, suc, ◌+◌, List, [], ◌∷◌, ◌++◌, length, map, All, Some, Result, Ok, Err, OnErr, slice_get, refl, ap, sym, subst, ◌∙◌, arith}
use Rattle.std.proofs.lemmas.List.{length_push}
use Rattle.std.proofs.lemmas.List.Elements.{All-push}
use Rattle.std.proofs.lemmas.Option.{same_Some, slice_get_within, get_or_from_slice_get}
use Rattle.nf_base.specs.declared.packet.Packet.{Packet}
use Rattle.packet_feed.specs.Arrivals.{Arrival, packet_of}
use Rattle.locked_run.specs.declared.kept.Frame.{Frame}
use Rattle.sharded_run.specs.Reading.{IsKept}
use Rattle.locked_run.specs.Pieces.{LiesIn, StayIn}
use Rattle.locked_run.specs.Batches.{arrival_of, arrivals, AreThere, AreKept}

module _ (pieces : List (List ℕ)) where
  pub packets_are : (ps : List Packet) (fs : List Frame) → length ps ≡ length fs → ps ≡ map packet_of (arrivals pieces ps fs)
  packets_are [] fs e = refl
  packets_are (p ∷ ps) [] e = absurd (omega (arith, e))
  packets_are (p ∷ ps) (f ∷ fs) e = ap (λ (qs : List Packet). p ∷ qs) (packets_are ps fs (omega (arith, e)))

  pub arrivals_pushed : (ps : List Packet) (fs : List Frame) (p : Packet) (f : Frame) → length ps ≡ length fs → arrivals pieces (ps ++ p ∷ []) (fs ++ f ∷ []) ≡ arrivals pieces ps fs ++ arrival_of pieces p f ∷ []
  arrivals_pushed [] [] p f e = refl
  arrivals_pushed [] (g ∷ gs) p f e = absurd (omega (arith, e))
  arrivals_pushed (q ∷ qs) [] p f e = absurd (omega (arith, e))
  arrivals_pushed (q ∷ qs) (g ∷ gs) p f e = ap (λ (as_list : List Arrival). arrival_of pieces q g ∷ as_list) (arrivals_pushed qs gs p f (omega (arith, e)))

  -- what stands at a place
  pub arrival_at : (ps : List Packet) (fs : List Frame) (k : ℕ) (p : Packet) (f : Frame) → slice_get ps k ≡ Some p → slice_get fs k ≡ Some f → slice_get (arrivals pieces ps fs) k ≡ Some (arrival_of pieces p f)
  arrival_at [] fs k p f e q = absurd (cc e)
  arrival_at (x ∷ xs) [] k p f e q = absurd (cc q)
  arrival_at (x ∷ xs) (y ∷ ys) zero p f e q = ap (λ (z : Packet). Some (arrival_of pieces z y)) (same_Some _ _ e) ∙ ap (λ (z : Frame). Some (arrival_of pieces p z)) (same_Some _ _ q)
  arrival_at (x ∷ xs) (y ∷ ys) (suc k) p f e q = arrival_at xs ys k p f e q

  pub as_long : (ps : List Packet) (fs : List Frame) → length ps ≡ length fs → length (arrivals pieces ps fs) ≡ length ps
  as_long [] fs e = refl
  as_long (p ∷ ps) [] e = absurd (omega (arith, e))
  as_long (p ∷ ps) (f ∷ fs) e = ap suc (as_long ps fs (omega (arith, e)))

  there_pushed : (fs : List Frame) (f : Frame) → AreThere pieces fs → LiesIn pieces f.spot → AreThere pieces (fs ++ f ∷ [])
  there_pushed [] f there lies = (lies, tt)
  there_pushed (g ∷ gs) f there lies = (there.0, there_pushed gs f there.1 lies)

  there_at : (fs : List Frame) (k : ℕ) (f : Frame) → AreThere pieces fs → slice_get fs k ≡ Some f → LiesIn pieces f.spot
  there_at [] k f there e = absurd (cc e)
  there_at (g ∷ gs) zero f there e = subst (λ (z : Frame). LiesIn pieces z.spot) (same_Some _ _ e) there.0
  there_at (g ∷ gs) (suc k) f there e = there_at gs k f there.1 e

  pub kept_pushed : (ps : List Packet) (fs : List Frame) (p : Packet) (f : Frame) → AreKept pieces ps fs → LiesIn pieces f.spot → IsKept p.time (arrival_of pieces p f).frame → AreKept pieces (ps ++ p ∷ []) (fs ++ f ∷ [])
  kept_pushed ps fs p f k lies one = record {
    as_many = length_push ps p ∙ ap (λ (n : ℕ). n + 1) k.as_many ∙ sym (length_push fs f);
    there = there_pushed fs f k.there lies;
    kept = subst (All (λ (a : Arrival). IsKept a.packet.time a.frame)) (sym (arrivals_pushed ps fs p f k.as_many))
        (All-push (λ (a : Arrival). IsKept a.packet.time a.frame) (arrivals pieces ps fs) (arrival_of pieces p f) k.kept one);
  }

  pub lies_at : (ps : List Packet) (fs : List Frame) (k : ℕ) (f : Frame) → AreKept pieces ps fs → slice_get fs k ≡ Some f → LiesIn pieces f.spot
  lies_at ps fs k f are q = there_at fs k f are.there q

  pub kept_at : (ps : List Packet) (fs : List Frame) (k : ℕ) (p : Packet) (f : Frame) → AreKept pieces ps fs → slice_get ps k ≡ Some p → slice_get fs k ≡ Some f → IsKept p.time (arrival_of pieces p f).frame
  kept_at ps fs k p f are e q =
      let at = arrival_at ps fs k p f e q in
      let lt = slice_get_within (arrivals pieces ps fs) k (arrival_of pieces p f) at in
      subst (λ (a : Arrival). IsKept a.packet.time a.frame) (get_or_from_slice_get (arrivals pieces ps fs) k (arrival_of pieces p f) (arrival_of pieces p f) at) (are.kept k (arrival_of pieces p f) lt)

-- ---- more lies among the pieces

module _ (old new : List (List ℕ)) (stay : StayIn old new) where
  pub arrivals_stay : (ps : List Packet) (fs : List Frame) → AreThere old fs → arrivals new ps fs ≡ arrivals old ps fs
  arrivals_stay [] fs there = refl
  arrivals_stay (p ∷ ps) [] there = refl
  arrivals_stay (p ∷ ps) (f ∷ fs) there =
      ap (λ (bytes : List ℕ). record { packet = p; original = f.original; frame = bytes } ∷ arrivals new ps fs) (stay.same f.spot there.0)
      ∙ ap (λ (as_list : List Arrival). arrival_of old p f ∷ as_list) (arrivals_stay ps fs there.1)

  there_stay : (fs : List Frame) → AreThere old fs → AreThere new fs
  there_stay [] there = tt
  there_stay (f ∷ fs) there = (stay.lies f.spot there.0, there_stay fs there.1)

  pub kept_stay : (ps : List Packet) (fs : List Frame) → AreKept old ps fs → AreKept new ps fs
  kept_stay ps fs k = record {
    as_many = k.as_many;
    there = there_stay fs k.there;
    kept = subst (All (λ (a : Arrival). IsKept a.packet.time a.frame)) (sym (arrivals_stay ps fs k.there)) k.kept;
  }

pub on_err : {T E : Type 0} (r : Result T E) (P : Type 0) → P → OnErr r P
on_err (Ok x) P p = tt
on_err (Err e) P p = p
