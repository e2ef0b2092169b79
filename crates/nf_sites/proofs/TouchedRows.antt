-- What sites of some functions are given.
use Rattle.std.proofs.Common.{true, ◌≡◌, ◌^◌, ◌%◌, ◌⊎◌, ℕ, suc, List, [], ◌∷◌, ◌++◌, Contains, Some, None, refl, ap, sym, ◌∙◌, subst, inl, inr}
use Rattle.nf_base.specs.Families.{source, destination}
use Rattle.nf_base.specs.declared.decl.ChainDecl.{ChainDecl}
use Rattle.nf_base.specs.declared.packet.Fields.{Fields}
use Rattle.nf_base.specs.Context.{Context}
use Rattle.nf_base.specs.Events.{Event, LookedUp, EntryUsed, CellRead}
use Rattle.nf_base.specs.Locations.{Location, EntryNo, KeyOf, CellAt, Numbers, all_numbers, locations_of}
use Rattle.nf_base.specs.declared.decl.ObjectId.TheVariants as object
use Rattle.nf_base.specs.Step.{input}
use Rattle.nf_laws.specs.Policer.{policer}
use Rattle.nf_laws.specs.Sums.{counters}
use Rattle.nf_laws.proofs.Listed.{has, has_none}
use Rattle.nf_sites.specs.Samples.{four_at}
use Rattle.nf_sites.specs.Named.{Named, numbered}
use Rattle.nf_sites.specs.Sites.{Site}
use Rattle.nf_sites.specs.OnPaths.{sites_of}
use Rattle.nf_sites.specs.Covers.{Table, label_value, Fits, TouchedAt, StandsBy, Stands}
use Rattle.nf_sites.specs.Labelled.{told}
use Rattle.nf_sites.specs.CoverLaws.{IsOf}
use Rattle.nf_sites.specs.CoverRows.{UsedBehind, EntriesAreFoundFirst, PolicerTouches, ValuesAreGiven}

abbrev Every : {A : Type 0} → (A → Type 0) → List A → Type 0
Every P [] = Unit {0}
Every P (x ∷ xs) = P x × Every P xs

every_at : {A : Type 0} (P : A → Type 0) (xs : List A) (x : A) → Every P xs → Contains xs x → P x
every_at P [] x h i = absurd (has_none x i)
every_at P (y ∷ xs) x h i = elim (has y xs x i) [ inl e ↦ subst P e h.0 | inr j ↦ every_at P xs x h.1 j ]

-- the first of some values
abbrev first_given : List (Named ℕ) → List ℕ
first_given [] = []
first_given (x ∷ xs) = x.given ∷ first_given xs

back : (n : ℕ) (key : List ℕ) → first_given (numbered n key) ≡ key
back n [] = refl
back n (x ∷ key) = ap (λ ks. x ∷ ks) (back (suc n) key)

at_key : (table : Table) (fields : Fields) (key : List ℕ) (c : Context) → Every (λ site. Fits policer table (input policer 0 fields) c site (KeyOf 0 0 key) → key ≡ destination fields % 2 ^ 32 ∷ []) (sites_of policer)
at_key table fields key c = (λ f. sym (ap first_given f.1 ∙ back 0 key), ((λ f. let no = f.0 in cc), ((λ f. sym (ap first_given f.1 ∙ back 0 key)), tt)))

key_row : (table : Table) (fields : Fields) (key : List ℕ) → PolicerTouches table fields 1 (KeyOf 0 0 key) → key ≡ destination fields % 2 ^ 32 ∷ []
key_row table fields key t = every_at (λ site. Fits policer table (input policer 0 fields) t.context site (KeyOf 0 0 key) → key ≡ destination fields % 2 ^ 32 ∷ []) (sites_of policer) t.site (at_key table fields key t.context) t.is_site t.fits

at_entry : (labels : (chain k : ℕ) → List ℕ) (fields : Fields) (k : ℕ) (c : Context) → Every (λ site. Fits policer (told labels) (input policer 0 fields) c site (EntryNo 0 k) → label_value (labels 0 k) 0 ≡ destination fields % 2 ^ 32) (sites_of policer)
at_entry labels fields k c = ((λ f. sym f.1.0.0), ((λ f. sym f.1.0.0), ((λ f. let no = f.0 in cc), tt)))

entry_row : (labels : (chain k : ℕ) → List ℕ) (fields : Fields) (k : ℕ) → PolicerTouches (told labels) fields 1 (EntryNo 0 k) → label_value (labels 0 k) 0 ≡ destination fields % 2 ^ 32
entry_row labels fields k t =
    every_at (λ site. Fits policer (told labels) (input policer 0 fields) t.context site (EntryNo 0 k) → label_value (labels 0 k) 0 ≡ destination fields % 2 ^ 32) (sites_of policer) t.site (at_entry labels fields k t.context) t.is_site t.fits

all_at_port_1 : Every (λ (site : Site). (site.door ≡ four_at 1) × (site.object ≡ object.Chain 0)) (sites_of policer)
all_at_port_1 = ((refl, refl), ((refl, refl), ((refl, refl), tt)))

port_row : (table : Table) (fields : Fields) (x : Location) → PolicerTouches table fields 0 x → ⊥
port_row table fields x t = let one = (every_at (λ (site : Site). (site.door ≡ four_at 1) × (site.object ≡ object.Chain 0)) (sites_of policer) t.site all_at_port_1 t.is_site).0 in let none = t.door in cc

chain_row : (table : Table) (fields : Fields) (k : ℕ) → PolicerTouches table fields 1 (EntryNo 1 k) → ⊥
chain_row table fields k t = let one = (every_at (λ (site : Site). (site.door ≡ four_at 1) × (site.object ≡ object.Chain 0)) (sites_of policer) t.site all_at_port_1 t.is_site).1 in let other = t.object in cc

at_cell : (table : Table) (fields : Fields) (i : ℕ) (c : Context) → Every (λ site. Fits counters table (input counters 0 fields) c site (CellAt 0 i) → (fields.src_port % 2 ^ 16 ≡ i) ⊎ (fields.dst_port % 2 ^ 16 ≡ i)) (sites_of counters)
at_cell table fields i c = ((λ f. inl f.1.0), ((λ f. inl f.1.0), ((λ f. inr f.1.0), tt)))

cell_row : (table : Table) (fields : Fields) (i : ℕ) → TouchedAt (IsOf counters) counters table (input counters 0 fields) (four_at 0) (CellAt 0 i) → (fields.src_port % 2 ^ 16 ≡ i) ⊎ (fields.dst_port % 2 ^ 16 ≡ i)
cell_row table fields i t =
    every_at (λ site. Fits counters table (input counters 0 fields) t.context site (CellAt 0 i) → (fields.src_port % 2 ^ 16 ≡ i) ⊎ (fields.dst_port % 2 ^ 16 ≡ i)) (sites_of counters) t.site (at_cell table fields i t.context) t.is_site t.fits

pub values_given : ValuesAreGiven
values_given = record { key = key_row; entry = entry_row; port = port_row; chain = chain_row; cell = cell_row }

-- the one event before
one_before : (e d : Event) (us vs : List Event) → e ∷ [] ≡ us ++ d ∷ vs → (e ≡ d) × (us ≡ [])
one_before e d [] vs q = (cc, refl)
one_before e d (u ∷ []) vs q = cc
one_before e d (u ∷ w ∷ us) vs q = cc

none_before : (d : Event) (us vs : List Event) → [] ≡ us ++ d ∷ vs → ⊥
none_before d [] vs q = cc
none_before d (u ∷ us) vs q = cc

no_entry_missed : (key : List ℕ) (k : ℕ) → Contains (KeyOf 0 0 key ∷ []) (EntryNo 0 k) → ⊥
no_entry_missed key k h = elim (has (KeyOf 0 0 key) [] (EntryNo 0 k) h) [ inl e ↦ cc | inr j ↦ has_none (EntryNo 0 k) j ]

where_found : (decls : List ChainDecl) (ns : Numbers) (key : List ℕ) (k : ℕ) (site : Site) → UsedBehind decls ns (LookedUp 7 0 0 key (Some 2) ∷ []) k site → site.place ≡ 7
where_found decls ns key k site b = (subst (λ (e : Event). StandsBy e site) (sym (one_before (LookedUp 7 0 0 key (Some 2)) b.event b.earlier b.later b.is_before).0) b.stands).place

not_by_a_miss : (decls : List ChainDecl) (ns : Numbers) (key : List ℕ) (k : ℕ) (site : Site) → UsedBehind decls ns (LookedUp 7 0 0 key None ∷ []) k site → ⊥
not_by_a_miss decls ns key k site b =
    let w = one_before (LookedUp 7 0 0 key None) b.event b.earlier b.later b.is_before in
    no_entry_missed key k (subst (λ (e : Event). Contains (locations_of decls (all_numbers ns b.earlier) e) (EntryNo 0 k)) (sym w.0) b.touches)

not_by_a_use : (decls : List ChainDecl) (ns : Numbers) (k : ℕ) (site : Site) → UsedBehind decls ns (EntryUsed 0 2 true ∷ []) k site → ⊥
not_by_a_use decls ns k site b = subst (λ (e : Event). StandsBy e site) (sym (one_before (EntryUsed 0 2 true) b.event b.earlier b.later b.is_before).0) b.stands

not_by_none : (decls : List ChainDecl) (ns : Numbers) (k : ℕ) (site : Site) → UsedBehind decls ns [] k site → ⊥
not_by_none decls ns k site b = none_before b.event b.earlier b.later b.is_before

at_its_place : (decls : List ChainDecl) (ns : Numbers) (x : Location) (site : Site) → Stands decls ns [] (CellRead 3 0 0) x site → site.place ≡ 3
at_its_place decls ns x site s = s.place

pub found_first : EntriesAreFoundFirst
found_first = record { where_found = where_found; not_by_a_miss = not_by_a_miss; not_by_a_use = not_by_a_use; not_by_none = not_by_none; at_its_place = at_its_place }
