-- The tables of a chain, the keys of whose maps stand in its labels, through what is done to them.
use Rattle.std.proofs.Common.{◌≡◌, ◌∙◌, ap, sym, refl, subst, arith, ℕ, ◌<◌, false, List, [], ◌∷◌, length, map, replicate}
use Rattle.std.specs.Prelude.{Some, None, slice_get, IsTrue, All}
use Rattle.std.specs.List.{AllZip, list_any}
use Rattle.std.specs.Option.{option_map}
use Rattle.std.proofs.lemmas.Option.{slice_get-map, get_or_from_slice_get, slice_get_within}
use Rattle.std.proofs.lemmas.List.Elements.{All-nil, All-cons, All-head, All-tail}
use Rattle.nf_base.specs.declared.decl.ChainDecl.{ChainDecl}
use Rattle.nf_base.specs.declared.decl.MapDecl.{MapDecl}
use Rattle.nf_base.specs.declared.share.Share.{Share}
use Rattle.nf_base.specs.Chains.{key_in}
use Rattle.vig_chain.specs.Stamps as stamps
use Rattle.vig_chain.specs.Stamps.{Stamps, stamp_of, stamped, freed}
use Rattle.vig_map.specs.Bindings.{bindings_of, is_bindable}
use Rattle.vig_tables.specs.Grid.{Grid, row_at, with_row}
use Rattle.vig_tables.specs.Keyed as keyed
use Rattle.vig_tables.specs.Keyed.{Keyed, key_of, IsBoundTo}
use Rattle.vig_tables.specs.Joined.{entries, IsJoined}
use Rattle.vig_tables.specs.Tagged.{Tagged, keyed_in, IsVacant, IsTagged, IsReady, IsBoundIn, IsBoundAt, IsUnboundIn, HasRoom, opened_map, AreKept}
use Rattle.vig_tables.proofs.Joining.{bound_own, bound_none}
use Rattle.vig_tables.proofs.Reading.{entry_with, stands}
use Rattle.vig_tables.proofs.Making.{fresh, open_rows, bindable, entered_joined, opened_joined}
use Rattle.vig_tables.proofs.Changing.{freed_joined}
use Rattle.vig_tables.proofs.Mapped.{both_mapped, all_bound, bound_tagged, all_unbound, unbound_tagged}
use Rattle.vig_tables.proofs.Tagging.{row_new}
use Rattle.vig_tables.proofs.TagLemmas.{map_kept, tagged_kept}

-- a map in which no key is bound to an index
record IsFreeOf (labels : Grid) (i : ℕ) (m : Tagged) : Type 0 where
  pub tagged : IsTagged labels m
  pub vacant : IsVacant i (keyed_in labels m).map

-- the maps at an index that may be given out
all_free :
    (decl : ChainDecl) (s : Stamps) (maps : List Tagged) (labels columns : Grid) (i : ℕ)
    → AreKept decl s maps labels columns → IsTrue (stamps.is_available s i)
    → All (IsFreeOf labels i) maps
all_free decl s maps labels columns i kept may =
    let all = both_mapped (keyed_in labels) (IsJoined decl.size (entries s labels columns)) (IsTagged labels) maps kept.tagged kept.joined.joined in
    let f = fresh decl s (map (keyed_in labels) maps) labels columns i kept.joined may in
    λ k d lt. record {
      tagged = (all k d lt).0;
      vacant = bound_none decl.size (entries s labels columns) i _ (all k d lt).1 f.none;
    }

-- they are as they were once its row is written
maps_kept :
    (labels : Grid) (row : List ℕ) (i : ℕ) (maps : List Tagged) → All (IsFreeOf labels i) maps
    → map (keyed_in (with_row i row labels)) maps ≡ map (keyed_in labels) maps
maps_kept labels row i [] free = refl
maps_kept labels row i (m ∷ maps) free =
    let f = All-head (IsFreeOf labels i) m maps free in
    ap (λ (x : Keyed). x ∷ map (keyed_in (with_row i row labels)) maps) (map_kept labels m row i f.tagged f.vacant)
    ∙ ap (λ (xs : List Keyed). keyed_in labels m ∷ xs) (maps_kept labels row i maps (All-tail (IsFreeOf labels i) m maps free))

-- the key of the row can be bound then
ready :
    (labels : Grid) (m : Tagged) (row : List ℕ) (i : ℕ) → IsFreeOf labels i m
    → i < length labels.rows
    → IsTrue (is_bindable (keyed_in labels m).map (key_of row (keyed_in labels m)))
    → IsReady (with_row i row labels) i m
ready labels m row i f lt can = record {
  tagged = tagged_kept labels m row i f.tagged f.vacant;
  vacant = subst (λ (x : Keyed). IsVacant i x.map) (sym (map_kept labels m row i f.tagged f.vacant)) f.vacant;
  unbound = subst (λ (x : Keyed). IsTrue (is_bindable x.map (key_in m.decl (row_at (with_row i row labels) i)))) (sym (map_kept labels m row i f.tagged f.vacant))
      (subst (λ (r : List ℕ). IsTrue (is_bindable (keyed_in labels m).map (key_in m.decl r))) (sym (row_new labels row i lt)) can);
}

pub all_ready :
    (decl : ChainDecl) (s : Stamps) (maps : List Tagged) (labels columns : Grid) (i : ℕ)
    (row : List ℕ) → AreKept decl s maps labels columns → IsTrue (stamps.is_available s i)
    → list_any (keyed.is_bound row) (map (keyed_in labels) maps) ≡ false
    → All (IsReady (with_row i row labels) i) maps
all_ready decl s maps labels columns i row kept may none =
    let can = bindable decl s (map (keyed_in labels) maps) labels columns i row kept.joined may none in
    let rows = open_rows decl s (map (keyed_in labels) maps) labels columns i kept.joined may in
    let all = both_mapped (keyed_in labels) (λ (x : Keyed). IsTrue (is_bindable x.map (key_of row x))) (IsFreeOf labels i) maps (all_free decl s maps labels columns i kept may) can in
    λ k d lt. ready labels _ row i (all k d lt).0 rows.0 (all k d lt).1

-- the fields after an entry was made
pub entered_kept :
    (decl : ChainDecl) (s : Stamps) (maps maps' : List Tagged) (labels columns : Grid)
    (time i : ℕ) (row zs : List ℕ) → AreKept decl s maps labels columns
    → IsTrue (stamps.is_available s i)
    → list_any (keyed.is_bound row) (map (keyed_in labels) maps) ≡ false
    → AllZip (IsBoundIn (with_row i row labels) i) maps maps'
    → AreKept decl (stamped time i s) maps' (with_row i row labels) (with_row i zs columns)
entered_kept decl s maps maps' labels columns time i row zs kept may none changed =
    let labels' = with_row i row labels in
    let free = all_free decl s maps labels columns i kept may in
    let rows = open_rows decl s (map (keyed_in labels) maps) labels columns i kept.joined may in
    let bound : AllZip (IsBoundTo row i) (map (keyed_in labels) maps) (map (keyed_in labels') maps') =
    subst (λ (r : List ℕ). AllZip (IsBoundTo r i) (map (keyed_in labels) maps) (map (keyed_in labels') maps')) (row_new labels row i rows.0)
    (subst (λ (xs : List Keyed). AllZip (IsBoundTo (row_at labels' i) i) xs (map (keyed_in labels') maps')) (maps_kept labels row i maps free)
    (all_bound labels' i maps maps' changed)) in
    record {
      joined = entered_joined decl s (map (keyed_in labels) maps) (map (keyed_in labels') maps') labels columns time i row zs kept.joined may none bound;
      tagged = bound_tagged labels' i maps maps' changed;
    }

-- the keys of an entry are bound to its index
pub all_bound_at :
    (decl : ChainDecl) (s : Stamps) (maps : List Tagged) (labels columns : Grid) (i stamp : ℕ)
    → AreKept decl s maps labels columns → stamp_of s.slots i ≡ Some stamp
    → All (IsBoundAt labels i) maps
all_bound_at decl s maps labels columns i stamp kept at =
    let all = both_mapped (keyed_in labels) (IsJoined decl.size (entries s labels columns)) (IsTagged labels) maps kept.tagged kept.joined.joined in
    let here = stands decl s (map (keyed_in labels) maps) labels columns i stamp kept.joined at in
    λ k d lt. record {
      tagged = (all k d lt).0;
      bound = bound_own decl.size (entries s labels columns) i (entry_with stamp labels columns i) _ (all k d lt).1 here;
    }

-- the fields after it was given up
pub freed_kept :
    (decl : ChainDecl) (s : Stamps) (maps maps' : List Tagged) (labels columns : Grid)
    (i stamp : ℕ) → AreKept decl s maps labels columns → stamp_of s.slots i ≡ Some stamp
    → AllZip (IsUnboundIn labels i) maps maps'
    → AreKept decl (freed i s) maps' labels columns
freed_kept decl s maps maps' labels columns i stamp kept at changed = record {
  joined = freed_joined decl s (map (keyed_in labels) maps) (map (keyed_in labels) maps') labels columns i stamp kept.joined at (all_unbound labels i maps maps' changed);
  tagged = unbound_tagged labels i maps maps' changed;
}

-- as many keys may be bound in each map as there are indices
pub all_room :
    (decl : ChainDecl) (s : Stamps) (maps : List Tagged) (labels columns : Grid)
    → AreKept decl s maps labels columns → All (HasRoom decl.size) maps
all_room decl s maps labels columns kept =
    let all = both_mapped (keyed_in labels) (IsJoined decl.size (entries s labels columns)) (IsTagged labels) maps kept.tagged kept.joined.joined in
    λ k d lt. (all k d lt).1.room

-- the map of a number
pub tagged_at :
    (labels : Grid) (maps : List Tagged) (k : ℕ) (m : Tagged) → All (IsTagged labels) maps
    → slice_get maps k ≡ Some m → IsTagged labels m
tagged_at labels maps k m all at = subst (λ (x : Tagged). IsTagged labels x) (get_or_from_slice_get maps k m m at) (all k m (slice_get_within maps k m at))

pub mapped_at :
    (labels : Grid) (maps : List Tagged) (k : ℕ) (m : Tagged) → slice_get maps k ≡ Some m
    → slice_get (map (keyed_in labels) maps) k ≡ Some (keyed_in labels m)
mapped_at labels maps k m at = slice_get-map (keyed_in labels) maps k ∙ ap (option_map (keyed_in labels)) at

pub none_mapped :
    (labels : Grid) (maps : List Tagged) (k : ℕ) → slice_get maps k ≡ None
    → slice_get (map (keyed_in labels) maps) k ≡ None
none_mapped labels maps k at = slice_get-map (keyed_in labels) maps k ∙ ap (option_map (keyed_in labels)) at

-- the fields before any entry
none_tagged :
    (labels : Grid) (size : ℕ) (decls : List MapDecl) → All (IsTagged labels) (map (λ (d : MapDecl). opened_map d size) decls)
none_tagged labels size [] = All-nil (IsTagged labels)
none_tagged labels size (d ∷ decls) = All-cons (IsTagged labels) (opened_map d size) (map (λ (x : MapDecl). opened_map x size) decls) (record {
  tagged = record { tagged = λ p held. absurd (omega (arith, held.1)); apart = λ p q held other same. absurd (omega (arith, held.1)) };
  within = λ p held. absurd (omega (arith, held.1));
}) (none_tagged labels size decls)

none_mapped_opened :
    (labels : Grid) (size : ℕ) (decls : List MapDecl)
    → map (keyed_in labels) (map (λ (d : MapDecl). opened_map d size) decls) ≡ map (λ (d : MapDecl). keyed.keyed d (bindings_of [] size)) decls
none_mapped_opened labels size [] = refl
none_mapped_opened labels size (d ∷ decls) = ap (λ (rest : List Keyed). keyed.keyed d (bindings_of [] size) ∷ rest) (none_mapped_opened labels size decls)

pub opened_kept :
    (decl : ChainDecl) (share : Share) (maps : List Tagged) (labels columns : Grid)
    → maps ≡ map (λ (d : MapDecl). opened_map d decl.size) decl.maps
    → labels ≡ record { width = length decl.labels; rows = replicate decl.size (replicate (length decl.labels) 0) }
    → columns ≡ record { width = length decl.columns; rows = replicate decl.size (replicate (length decl.columns) 0) }
    → AreKept decl (stamps.opened decl.size share) maps labels columns
opened_kept decl share maps labels columns m l f = record {
  joined = opened_joined decl share (map (keyed_in labels) maps) labels columns (ap (map (keyed_in labels)) m ∙ none_mapped_opened labels decl.size decl.maps) l f;
  tagged = rw m (none_tagged labels decl.size decl.maps);
}
