-- Tags beside shared rows, through what is done to them.
use Rattle.std.proofs.Common.{◌≡◌, ◌∙◌, ap, sym, refl, arith, ℕ, suc, ◌<◌, List, [], ◌∷◌, length, map, inl, inr}
use Rattle.std.specs.Prelude.{Some, Contains, IsTrue}
use Rattle.std.proofs.lemmas.List.{length-set}
use Rattle.nf_base.specs.Chains.{key_in}
use Rattle.hash_slots.specs.declared.cells.Pair.{Pair}
use Rattle.hash_slots.specs.Hashes.{tag_of}
use Rattle.hash_slots.specs.Tags.{Tags, pair_of}
use Rattle.hash_slots.specs.Tags as tags
use Rattle.vig_map.specs.Bindings.{is_bindable}
use Rattle.vig_tables.specs.Grid.{Grid, row_at, with_row}
use Rattle.vig_tables.proofs.Tagging.{not_held, free_of, bound_held, old_or_new, still, put_tagged, put_bound, erase_tagged, erase_unbound, row_kept}
use Rattle.vig_tables.specs.Keyed.{Keyed, IsBoundTo, IsUnbound, value_for}
use Rattle.vig_tables.specs.Tagged.{binding, IsVacant, Tagged, keys_in, keyed_in, IsTagged, IsReady, IsBoundIn, IsBoundAt, IsUnboundIn}

-- a map's tags after others stand in their place
abbrev pub with_tags : Tags → Tagged → Tagged
with_tags t m = record { decl = m.decl; tags = t }

pub bind_tagged :
    (labels : Grid) (m : Tagged) (t : Tags) (i : ℕ) → IsTagged labels m → i < length labels.rows
    → IsTrue (is_bindable (keyed_in labels m).map (keys_in m.decl labels i))
    → tags.IsPut (pair_of (tag_of (keys_in m.decl labels i)) i) m.tags t
    → IsTagged labels (with_tags t m)
bind_tagged labels m t i k lt can put = record {
  tagged = put_tagged (keys_in m.decl labels) (keys_in m.decl labels) m.tags t (keys_in m.decl labels i) i k.tagged (λ q held. refl) refl (free_of _ (keys_in m.decl labels i) can) put;
  within = λ q held. elim (old_or_new (pair_of (tag_of (keys_in m.decl labels i)) i) q m.tags t put held) [
    | inl e ↦ omega (arith, ap (λ (x : Pair). x.index) e)
    | inr o ↦ k.within q o.1
  ];
}

pub bind_bound :
    (labels : Grid) (m : Tagged) (t : Tags) (i : ℕ) → IsTagged labels m
    → IsTrue (is_bindable (keyed_in labels m).map (keys_in m.decl labels i))
    → tags.IsPut (pair_of (tag_of (keys_in m.decl labels i)) i) m.tags t
    → IsBoundTo (row_at labels i) i (keyed_in labels m) (keyed_in labels (with_tags t m))
bind_bound labels m t i k can put = record {
  decl = refl;
  put = put_bound (keys_in m.decl labels) (keys_in m.decl labels) m.tags t (keys_in m.decl labels i) i k.tagged (λ q held. refl) refl (free_of _ (keys_in m.decl labels i) can) put;
}

pub bound_in :
    (labels : Grid) (m : Tagged) (t : Tags) (i : ℕ) → IsReady labels i m → i < length labels.rows
    → tags.IsPut (pair_of (tag_of (keys_in m.decl labels i)) i) m.tags t
    → IsBoundIn labels i m (with_tags t m)
bound_in labels m t i ready lt put = record {
  bound = bind_bound labels m t i ready.tagged ready.unbound put;
  tagged = bind_tagged labels m t i ready.tagged lt ready.unbound put;
}

pub unbind_tagged :
    (labels : Grid) (m : Tagged) (t : Tags) (p : Pair) → IsTagged labels m → tags.IsErased p m.tags t
    → IsTagged labels (with_tags t m)
unbind_tagged labels m t p k erased = record {
  tagged = erase_tagged (keys_in m.decl labels) m.tags t p k.tagged erased;
  within = λ q held. k.within q (still p q m.tags t erased held).1;
}

pub unbind_unbound :
    (labels : Grid) (m : Tagged) (t : Tags) (i : ℕ) → IsTagged labels m
    → value_for (row_at labels i) (keyed_in labels m) ≡ Some i
    → tags.IsErased (pair_of (tag_of (keys_in m.decl labels i)) i) m.tags t
    → IsUnbound (row_at labels i) (keyed_in labels m) (keyed_in labels (with_tags t m))
unbind_unbound labels m t i k bound erased =
    let held = bound_held (keys_in m.decl labels) m.tags (keys_in m.decl labels i) i k.tagged bound in
    record {
      decl = refl;
      erased = erase_unbound (keys_in m.decl labels) m.tags t (pair_of (tag_of (keys_in m.decl labels i)) i) (keys_in m.decl labels i) k.tagged held.0 refl erased;
    }

pub unbound_in :
    (labels : Grid) (m : Tagged) (t : Tags) (i : ℕ) → IsBoundAt labels i m
    → tags.IsErased (pair_of (tag_of (keys_in m.decl labels i)) i) m.tags t
    → IsUnboundIn labels i m (with_tags t m)
unbound_in labels m t i bound erased = record {
  unbound = unbind_unbound labels m t i bound.tagged bound.bound erased;
  tagged = unbind_tagged labels m t (pair_of (tag_of (keys_in m.decl labels i)) i) bound.tagged erased;
}

-- A row is written over at an index to which no key is bound: the map is as it was, and its tags
-- are those of the rows.
map_same :
    (f g : Pair → List ℕ × ℕ) (ps : List Pair) → ((p : Pair) → Contains ps p → f p ≡ g p)
    → map f ps ≡ map g ps
map_same f g [] same = refl
map_same f g (p ∷ ps) same =
    ap (λ (x : List ℕ × ℕ). x ∷ map f ps) (same p (0, omega arith, refl))
    ∙ ap (λ (xs : List (List ℕ × ℕ)). g p ∷ xs) (map_same f g ps (λ q h. same q (suc h.0, omega (arith, h.1), h.2)))

key_kept :
    (labels : Grid) (m : Tagged) (row : List ℕ) (i : ℕ) → IsTagged labels m
    → IsVacant i (keyed_in labels m).map → (p : Pair) → Contains m.tags.pairs p
    → keys_in m.decl (with_row i row labels) p.index ≡ keys_in m.decl labels p.index
key_kept labels m row i k vacant p held =
    ap (key_in m.decl) (row_kept labels row i p.index (not_held (keys_in m.decl labels) m.tags i k.tagged vacant p held))

pub map_kept :
    (labels : Grid) (m : Tagged) (row : List ℕ) (i : ℕ) → IsTagged labels m
    → IsVacant i (keyed_in labels m).map
    → keyed_in (with_row i row labels) m ≡ keyed_in labels m
map_kept labels m row i k vacant =
    ap (λ (ps : List (List ℕ × ℕ)). let kept : Keyed = record { decl = m.decl; map = record { pairs = ps; most = m.tags.most } } in kept)
    (map_same (binding (keys_in m.decl (with_row i row labels))) (binding (keys_in m.decl labels)) m.tags.pairs (λ p held. ap (λ (key : List ℕ). (key, p.index)) (key_kept labels m row i k vacant p held)))

pub tagged_kept :
    (labels : Grid) (m : Tagged) (row : List ℕ) (i : ℕ) → IsTagged labels m
    → IsVacant i (keyed_in labels m).map → IsTagged (with_row i row labels) m
tagged_kept labels m row i k vacant = record {
  tagged = record {
    tagged = λ p held. k.tagged.tagged p held ∙ ap tag_of (sym (key_kept labels m row i k vacant p held));
    apart = λ p q in_p in_q same. k.tagged.apart p q in_p in_q (sym (key_kept labels m row i k vacant p in_p) ∙ same ∙ key_kept labels m row i k vacant q in_q);
  };
  within = λ p held. omega (arith, k.within p held, length-set labels.rows i row);
}
