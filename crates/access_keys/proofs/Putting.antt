-- Sites put behind others, one after another.
use Rattle.std.proofs.Common.{◌≡◌, ℕ, ◌+◌, ◌<◌, ◌≤◌, true, false, cond, List, [], ◌∷◌, ◌++◌, length, get_or, map, take, drop, zero, suc, Option, Result, refl, sym, ap, ◌∙◌, subst, arith, append_assoc}
use Rattle.std.specs.List.{flat_map, filter}
use Rattle.std.specs.Result.{OnOk}
use Rattle.std.proofs.lemmas.Result.{on_ok_weaker}
use Rattle.std.proofs.lemmas.List.{append-nil, map-append, take_more, take_all, take-map, length-take-le}
use Rattle.std.proofs.lemmas.List.Concat.{flat_map-append}
use Rattle.std.proofs.lemmas.List.Folds.{flat_map-map}
use Rattle.std.proofs.lemmas.List.Elements.{filter-append}
use Rattle.nf_base.specs.Text.{Given, Creation}
use Rattle.nf_base.specs.declared.expr.Given as given
use Rattle.nf_base.specs.View.{given_of}
use Rattle.nf_base.specs.declared.decl.MapDecl.{MapDecl}
use Rattle.nf_sites.specs.declared.sort.Sort.{Sort}
use Rattle.nf_sites.specs.Named.{Named, named_as, numbered}
use Rattle.nf_sites.specs.Known.{field_set}
use Rattle.nf_sites.specs.Sites as text
use Rattle.nf_sites.specs.Sites.{name_site, name_sites}
use Rattle.nf_base.specs.declared.packet.Field.{Field}
use Rattle.nf_base.specs.declared.packet.Door.{Door}
use Rattle.access_keys.specs.declared.site.Site.{Site}
use Rattle.access_keys.specs.declared.access.Here.{Here}
use Rattle.access_keys.specs.Together.{new_seen}
use Rattle.access_keys.specs.Reached.{has}
use Rattle.access_keys.specs.Shown.{chain_site, shown, shown_at, Puts}

shown-append : (h : Here) (xs ys : List text.Site) → shown_at h (xs ++ ys) ≡ shown_at h xs ++ shown_at h ys
shown-append h xs ys =
    let test = λ (s : text.Site). has h.places.now s.place in
    ap (map (shown (map new_seen h.all.now) h.decls.now)) (filter-append test xs ys)
    ∙ map-append (shown (map new_seen h.all.now) h.decls.now) (filter test xs) (filter test ys)

-- nothing was put
pub puts_none : (h : Here) (a : List Site) → Puts h a a []
puts_none h a = record { more = sym (append-nil a) }

-- some, and then more
pub puts_both :
    (h : Here) (a b c : List Site) (xs ys : List text.Site) → Puts h a b xs → Puts h b c ys → Puts h a c (xs ++ ys)
puts_both h a b c xs ys p q = record {
  more =
      q.more ∙ ap (λ r. r ++ shown_at h ys) p.more ∙ append_assoc a (shown_at h xs) (shown_at h ys)
      ∙ ap (λ r. a ++ r) (sym (shown-append h xs ys));
}

-- a list taken one further
pub taken_more : {A : Type 0} (xs : List A) (i : ℕ) (x : A) → i < length xs → x ≡ get_or xs i x → take (i + 1) xs ≡ take i xs ++ x ∷ []
taken_more xs i x h e = take_more xs i x h ∙ ap (λ y. take i xs ++ y ∷ []) (sym e)

-- the sites of one item more
pub puts_more :
    {A : Type 0} (h : Here) (a b c : List Site) (f : A → List text.Site) (xs : List A) (i : ℕ) (x : A) → i < length xs →
    x ≡ get_or xs i x → Puts h a b (flat_map f (take i xs)) → Puts h b c (f x) → Puts h a c (flat_map f (take (i + 1) xs))
puts_more h a b c f xs i x l e p q =
    let same : flat_map f (take i xs) ++ f x ≡ flat_map f (take (i + 1) xs) =
    sym (ap (flat_map f) (taken_more xs i x l e) ∙ flat_map-append f (take i xs) (x ∷ []) ∙ ap (λ r. flat_map f (take i xs) ++ r) (append-nil (f x))) in
    subst (λ r. Puts h a c r) same (puts_both h a b c (flat_map f (take i xs)) (f x) p q)

-- the sites of all items
pub puts_all :
    {A B : Type 0} (h : Here) (a b : List Site) (f : B → List text.Site) (v : A → B) (xs : List A) (i : ℕ) → length xs ≤ i →
    Puts h a b (flat_map (λ x. f (v x)) (take i xs)) → Puts h a b (flat_map f (map v xs))
puts_all h a b f v xs i l p =
    subst (λ r. Puts h a b r) (ap (flat_map (λ x. f (v x))) (take_all i xs l) ∙ sym (flat_map-map f v xs)) p

-- the look-ups of one map more
pub name_sites-append :
    (door : Door) (n : Creation) (k : ℕ) (ms : List MapDecl) (d : MapDecl) →
    name_sites door n k (ms ++ d ∷ []) ≡ name_sites door n k ms ++ name_site door n (k + length ms) d ∷ []
name_sites-append door n k [] d = ap (λ m. name_site door n m d ∷ []) (omega arith)
name_sites-append door n k (m ∷ ms) d =
    ap (λ r. name_site door n k m ∷ r)
    (name_sites-append door n (suc k) ms d
    ∙ ap (λ j. name_sites door n (suc k) ms ++ name_site door n j d ∷ []) (omega arith))

-- a site at a place that is not reached
pub puts_unreached : (h : Here) (a : List Site) (s : text.Site) → has h.places.now s.place ≡ false → Puts h a a (s ∷ [])
puts_unreached h a s e = record {
  more = sym (ap (λ b. a ++ map (shown (map new_seen h.all.now) h.decls.now) (cond b (s ∷ []) [])) e ∙ append-nil a);
}

-- and one at a place that is
pub puts_reached :
    (h : Here) (a b : List Site) (s : text.Site) (x : Site) → has h.places.now s.place ≡ true →
    x ≡ shown (map new_seen h.all.now) h.decls.now s → b ≡ a ++ x ∷ [] → Puts h a b (s ∷ [])
puts_reached h a b s x e d m = record {
  more =
      m ∙ ap (λ y. a ++ y ∷ []) d
      ∙ sym (ap (λ c. a ++ map (shown (map new_seen h.all.now) h.decls.now) (cond c (s ∷ []) [])) e);
}

-- the fields of labels by number
pub numbered-map : {A B : Type 0} (f : A → B) (n : ℕ) (xs : List A) → map (named_as f) (numbered n xs) ≡ numbered n (map f xs)
numbered-map f n [] = refl
numbered-map f n (x ∷ xs) = ap (λ r. record { label = n; given = f x } ∷ r) (numbered-map f (suc n) xs)

-- labels by number, one more
pub numbered-append : {A : Type 0} (n : ℕ) (xs : List A) (x : A) → numbered n (xs ++ x ∷ []) ≡ numbered n xs ++ record { label = n + length xs; given = x } ∷ []
numbered-append {A} n [] x = ap (λ m. let r : Named A = record { label = m; given = x } in r ∷ []) (omega arith)
numbered-append {A} n (y ∷ xs) x =
    ap (λ (r : List (Named A)). record { label = n; given = y } ∷ r)
    (numbered-append (suc n) xs x
    ∙ ap (λ m. let r : Named A = record { label = m; given = x } in numbered (suc n) xs ++ r ∷ []) (omega arith))

pub map-map : {A B C : Type 0} (f : B → C) (g : A → B) (xs : List A) → map f (map g xs) ≡ map (λ x. f (g x)) xs
map-map f g [] = refl
map-map f g (x ∷ xs) = ap (λ r. f (g x) ∷ r) (map-map f g xs)

pub drop-map : {A B : Type 0} (f : A → B) (n : ℕ) (xs : List A) → drop n (map f xs) ≡ map f (drop n xs)
drop-map f zero xs = refl
drop-map f (suc n) [] = refl
drop-map f (suc n) (x ∷ xs) = drop-map f n xs

-- the look-up of one map more
pub names_more :
    (h : Here) (a b c : List Site) (door : Door) (n : Creation) (ms : List MapDecl) (i : ℕ) (d : MapDecl) → i < length ms → d ≡ get_or ms i d →
    Puts h a b (name_sites door n 0 (take i ms)) → Puts h b c (name_site door n i d ∷ []) → Puts h a c (name_sites door n 0 (take (i + 1) ms))
names_more h a b c door n ms i d l e p q =
    let same : name_sites door n 0 (take i ms) ++ name_site door n i d ∷ [] ≡ name_sites door n 0 (take (i + 1) ms) =
    sym
    (ap (name_sites door n 0) (taken_more ms i d l e) ∙ name_sites-append door n 0 (take i ms) d
    ∙ ap (λ j. name_sites door n 0 (take i ms) ++ name_site door n j d ∷ []) (ap (λ j. 0 + j) (length-take-le i ms (omega arith)) ∙ omega arith)) in
    subst (λ r. Puts h a c r) same (puts_both h a b c (name_sites door n 0 (take i ms)) (name_site door n i d ∷ []) p q)

-- some were put, and a call that may fail puts more
pub puts_both_ok :
    {T E : Type 0} (r : Result T E) (h : Here) (a b c : List Site) (xs ys : List text.Site) → Puts h a b xs →
    OnOk r (Puts h b c ys) → OnOk r (Puts h a c (xs ++ ys))
puts_both_ok r h a b c xs ys p q =
    let both : Puts h b c ys → Puts h a c (xs ++ ys) = λ more. puts_both h a b c xs ys p more in
    on_ok_weaker r both q

-- a call that puts a site at a chain
pub put_as :
    {T E : Type 0} (r : Result T E) (h : Here) (a b : List Site) (door : Door) (way : Sort) (place chain : ℕ) (named : List (Named (Option Field)))
    (xs : List (Named Given)) → map (named_as field_set) xs ≡ named →
    OnOk r ((given : List (Named Given)) → map (named_as field_set) given ≡ named → Puts h a b (chain_site door way place chain given ∷ [])) →
    OnOk r (Puts h a b (chain_site door way place chain xs ∷ []))
put_as r h a b door way place chain named xs e q =
    let at : ((given : List (Named Given)) → map (named_as field_set) given ≡ named → Puts h a b (chain_site door way place chain given ∷ [])) → Puts h a b (chain_site door way place chain xs ∷ []) =
    λ f. f xs e in
    on_ok_weaker r at q

-- labels by number, with the fields that values are
pub same_numbered :
    (n k : ℕ) (gs : List given.Given) (fs : List (Option Field)) (ns : List (Named (Option Field))) → k ≡ n →
    fs ≡ map (λ (g : given.Given). field_set (given_of g)) gs → ns ≡ numbered k fs →
    map (named_as field_set) (numbered n (map given_of gs)) ≡ ns
same_numbered n k gs fs ns e f g =
    numbered-map field_set n (map given_of gs) ∙ ap (numbered n) (map-map field_set given_of gs ∙ sym f)
    ∙ ap (λ m. numbered m fs) (sym e) ∙ sym g

-- and those of a part of them
pub same_part :
    (n p : ℕ) (gs : List Given) (fs key : List (Option Field)) (ns : List (Named (Option Field))) → fs ≡ map field_set gs →
    key ≡ take p (drop n fs) → ns ≡ numbered n key → map (named_as field_set) (numbered n (take p (drop n gs))) ≡ ns
same_part n p gs fs key ns e f g =
    numbered-map field_set n (take p (drop n gs))
    ∙ ap (numbered n)
    (sym (take-map field_set p (drop n gs)) ∙ ap (take p) (sym (drop-map field_set n gs) ∙ ap (drop n) (sym e)) ∙ sym f)
    ∙ sym g
