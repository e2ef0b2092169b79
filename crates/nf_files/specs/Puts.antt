-- Bytes that are put under a name from outside.
use Rattle.std.specs.Prelude.{◌≡◌, ◌≢◌, ℕ, List, Some, None}
use Rattle.nf_files.specs.Told.{Told}

-- bytes were put under a name, in place of what stood there, and no number stands for it any more
pub record Puts (old new : Told) (put : List ℕ) (bytes : List ℕ) : Type 0 where
  pub here : new.content put ≡ Some bytes
  pub latest_none : new.latest put ≡ None
  pub contents : (n : List ℕ) → n ≢ put → new.content n ≡ old.content n
  pub latest_other : (n : List ℕ) → n ≢ put → new.latest n ≡ old.latest n
  pub rests : (g : ℕ) → new.rest g ≡ old.rest g
  pub givens : (g : ℕ) → new.given g ≡ old.given g
  pub names : (g : ℕ) → new.name g ≡ old.name g
  pub kinds : (g : ℕ) → new.kind g ≡ old.kind g
  pub next_same : new.next ≡ old.next
