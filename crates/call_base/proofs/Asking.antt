-- Names that are asked for one after another.
use Rattle.std.proofs.Common.{◌≡◌, inl, inr, ℕ, zero, suc, ◌+◌, ◌<◌, ◌≤◌, List, [], ◌∷◌, ◌++◌, length, map, take, drop, get_or, Some, slice_get, Ok, Err, refl, ap, sym, subst, ◌∙◌, append_assoc, append-nil, arith}
use Rattle.std.specs.List.{range_with_len}
use Rattle.std.proofs.lemmas.List.{take_more, take-append-drop}
use Rattle.std.proofs.lemmas.Option.{slice_get_within, get_or_from_slice_get}
use Rattle.nf_files.specs.Causes.{Counted, Faulted, FaultedAsking, Asked, asking, losing}
use Rattle.stream_run.specs.declared.fault.RunFault.{RunFault}
use Rattle.stream_run.specs.declared.fault.RunFault.TheVariants.{File, Memory}
use Rattle.call_base.specs.Numbers.{IsFrontOf}
use Rattle.call_base.specs.Opened.{AsksNext, AsksSome}

abbrev pub with_asked : Counted → List Asked → Counted
with_asked c names = record { faults = c.faults; first = c.first; asked = names; missing = c.missing }

pub asking_both : (xs ys : List Asked) (c : Counted) → asking ys (asking xs c) ≡ asking (xs ++ ys) c
asking_both xs ys c = ap (with_asked c) (append_assoc c.asked xs ys)

pub asking_none : (c : Counted) → c ≡ asking [] c
asking_none c = ap (with_asked c) (sym (append-nil c.asked))

-- a front, and one name more
pub front_more : (names : List Asked) (k : ℕ) (one : Asked) → slice_get names k ≡ Some one → take (k + 1) names ≡ take k names ++ one ∷ []
front_more names k one at =
    take_more names k one (slice_get_within names k one at) ∙ ap (λ (x : Asked). take k names ++ x ∷ []) (get_or_from_slice_get names k one one at)

pub front_taken : (names : List Asked) (k : ℕ) → IsFrontOf names (take k names)
front_taken names k = record { later = drop k names; whole = take-append-drop k names }

-- a name more was asked for
pub asked_more : (front : List Asked) (one : Asked) (old mid new : Counted) → mid ≡ asking front old → new ≡ asking (one ∷ []) mid → new ≡ asking (front ++ one ∷ []) old
asked_more front one old mid new so_far more = more ∙ ap (asking (one ∷ [])) so_far ∙ asking_both front (one ∷ []) old

-- the call that asks for one name more failed
asks_fault : (names front : List Asked) (one : Asked) (old mid new : Counted) (file : ℕ) → IsFrontOf names front → IsFrontOf names (front ++ one ∷ []) → mid ≡ asking front old → FaultedAsking mid new (one ∷ []) file → AsksSome names old new (File file)
asks_fault names front one old mid new file f g so_far (inl taken) = record {
  front = front ++ one ∷ [];
  is_front = g;
  cause = inl (subst (λ (c : Counted). Faulted c new file) (ap (asking (one ∷ [])) so_far ∙ asking_both front (one ∷ []) old) taken);
}
asks_fault names front one old mid new file f g so_far (inr lost) = record {
  front = front;
  is_front = f;
  cause = inr (subst (λ (c : Counted). Faulted (losing c) new file) so_far lost);
}

-- the call that asks for one name more was stopped
pub asks_next : (names front : List Asked) (one : Asked) (number : ℕ) (old mid new : Counted) (stop : RunFault) → IsFrontOf names front → IsFrontOf names (front ++ one ∷ []) → mid ≡ asking front old
    → AsksNext {T = ℕ} one number mid new (Err stop) → AsksSome names old new stop
asks_next names front one number old mid new Memory f g so_far (inl same) = record { front = front; is_front = f; cause = same ∙ so_far }
asks_next names front one number old mid new Memory f g so_far (inr more) = record { front = front ++ one ∷ []; is_front = g; cause = asked_more front one old mid new so_far more }
asks_next names front one number old mid new (File file) f g so_far h = asks_fault names front one old mid new file f g so_far h.1

-- memory ran out behind a name that was asked for
pub asks_here : (names front : List Asked) (old new : Counted) → IsFrontOf names front → new ≡ asking front old → AsksSome names old new Memory
asks_here names front old new f so_far = record { front = front; is_front = f; cause = so_far }

-- the first of a range are a front of it
pub front_range : (f : ℕ → Asked) (first k n : ℕ) → k ≤ n → IsFrontOf (map f (range_with_len first n)) (map f (range_with_len first k))
front_range f first zero n le = record { later = map f (range_with_len first n); whole = refl }
front_range f first (suc k) zero le = absurd (omega (arith, le))
front_range f first (suc k) (suc n) le =
    let r = front_range f (first + 1) k n (omega (arith, le)) in
    record { later = r.later; whole = ap (λ (xs : List Asked). f first ∷ xs) r.whole }

-- a front of the last part, behind the first one
pub front_behind : (xs ys front : List Asked) → IsFrontOf ys front → IsFrontOf (xs ++ ys) (xs ++ front)
front_behind xs ys front h = record { later = h.later; whole = append_assoc xs front h.later ∙ ap (λ (zs : List Asked). xs ++ zs) h.whole }

-- a front of the first part
pub front_before : (xs ys front : List Asked) → IsFrontOf xs front → IsFrontOf (xs ++ ys) front
front_before xs ys front h = record { later = h.later ++ ys; whole = sym (append_assoc front h.later ys) ∙ ap (λ (zs : List Asked). zs ++ ys) h.whole }

pub front_all : (xs : List Asked) → IsFrontOf xs xs
front_all xs = record { later = []; whole = append-nil xs }
