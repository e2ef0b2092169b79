-- Labels of different names.
use Rattle.std.proofs.Common.{◌≡◌, List, [], ◌∷◌, ◌++◌, false, map}
use Rattle.std.specs.Str.{bytes_eq}
use Rattle.nf_base.specs.declared.decl.ColumnDecl.{ColumnDecl}
use Rattle.nf_types.specs.Names.{is_among}
use Rattle.nf_types.proofs.First.{or_false}
use Rattle.nf_types.proofs.Spread.{Each, Pairwise}

abbrev pub IsNamedUnlike : ColumnDecl → ColumnDecl → Type 0
IsNamedUnlike one other = bytes_eq other.name one.name ≡ false

-- no two have the same name
abbrev pub AreNamedApart : List ColumnDecl → Type 0
AreNamedApart ls = Pairwise IsNamedUnlike ls

each_push : (one : ColumnDecl) (ls : List ColumnDecl) (l : ColumnDecl) → Each (IsNamedUnlike one) ls → IsNamedUnlike one l → Each (IsNamedUnlike one) (ls ++ l ∷ [])
each_push one [] l all e = (e, tt)
each_push one (m ∷ ls) l all e = (all.0, each_push one ls l all.1 e)

-- one more, with a name that none has
pub names_push : (ls : List ColumnDecl) (l : ColumnDecl) → AreNamedApart ls → is_among l.name (map (λ (c : ColumnDecl). c.name) ls) ≡ false → AreNamedApart (ls ++ l ∷ [])
names_push [] l all e = (tt, tt)
names_push (m ∷ ls) l all e =
    let parts = or_false (bytes_eq l.name m.name) (is_among l.name (map (λ (c : ColumnDecl). c.name) ls)) e in
    (each_push m ls l all.0 parts.0, names_push ls l all.1 parts.1)
