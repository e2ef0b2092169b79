-- Pairs of places, each taken once.
use Rattle.std.proofs.Common.{◌≡◌, ◌↔◌, ℕ, ◌<◌, sym, List, arith, length, get_or, subst, inl, inr}
use Rattle.std.proofs.lemmas.Bool.{cases_lt}
use Rattle.std.proofs.lemmas.List.{get_or_read}
use Rattle.nf_base.specs.declared.keys.Keys.{Keys}
use Rattle.nf_base.specs.declared.packet.Family.{Family}
use Rattle.nf_base.specs.declared.hash_fields.Hashable.{Hashable}
use Rattle.key_rows.specs.declared.place.Place.{Place}
use Rattle.key_rows.specs.Places.{Agree, AgreeAt, AreAdmissible}
use Rattle.key_rows.specs.Systems.{AgreeOn, AgreeFrom}
use Rattle.key_rows.specs.Laws.{PlacesAgreeInEitherOrder}

swapped : (f g : Family) (first second : List Hashable) (key other : List ℕ) → Agree f g first second key other → Agree g f second first other key
swapped f g first second key other agree = record { hashes = λ p q fits fits_too tied. sym (agree.hashes q p fits_too fits (sym tied)) }

pub places_agree_in_either_order : PlacesAgreeInEitherOrder
places_agree_in_either_order keys first second = (swapped first.family second.family first.known second.known _ _, swapped second.family first.family second.known first.known _ _)

pub pairs_once : (keys : Keys) (places : List Place) → ((i : ℕ) → i < length places → AgreeFrom keys places i) ↔ AreAdmissible keys places
pairs_once keys places = (
  λ each i d below j e inside.
      elim (cases_lt j i) [
        | inl before ↦ (places_agree_in_either_order keys (get_or places j e) (get_or places i d)).0 (each j inside i below (omega arith) e d)
        | inr after ↦ each i below j inside after d e
      ],
  λ all i below j inside after d e. all i d below j e inside,
)

-- two places as they are read
pub pair_at : (keys : Keys) (places : List Place) (i j : ℕ) (x y : Place) → i < length places → j < length places → x ≡ get_or places i x → y ≡ get_or places j y → AgreeAt keys x y ↔ AgreeOn keys places i j
pair_at keys places i j x y below inside is_x is_y = (
  λ agree d e.
      subst (λ (p : Place). AgreeAt keys p (get_or places j e)) (get_or_read places i x below is_x d)
      (subst (λ (p : Place). AgreeAt keys x p) (get_or_read places j y inside is_y e) agree),
  λ on. subst (λ (p : Place). AgreeAt keys p y) (sym is_x) (subst (λ (p : Place). AgreeAt keys (get_or places i x) p) (sym is_y) (on x y)),
)
