-- What a handler keeps, block by block.
use Rattle.std.proofs.Common.{◌≡◌, ◌∙◌, ◌+◌, All, List, [], ◌∷◌, ◌++◌, refl, ap, arith, Bool, cond, Some}
use Rattle.std.specs.List.{count_by, AllByRecursion}
use Rattle.std.proofs.lemmas.List.Sums.{sum_by-cons, sum_by-append}
use Rattle.std.proofs.lemmas.List.Elements.{recursion_from_All}
use Rattle.std.proofs.lemmas.List.Elements.{All-contains}
use Rattle.nf_laws.proofs.Doors.{at_door}
use Rattle.nf_base.specs.Functions.{function_of}
use Rattle.nf_base.specs.declared.func.Func.{Func}
use Rattle.nf_base.specs.declared.packet.Door.{Door}
use Rattle.nf_base.specs.Doors.{blocks, handler_at}
use Rattle.nf_base.specs.declared.decl.ChainDecl.{ChainDecl}
use Rattle.nf_base.specs.declared.handler.Handler.{Handler}
use Rattle.nf_base.specs.Limits.{Fits}
use Rattle.nf_base.specs.Statements.{Statement, Does, Asks, Makes, statements, is_new, is_lookup, is_entry_question}
use Rattle.nf_base.specs.Text.{Block, End, Do, Ask, Make, Question, Get, Find, Test}
use Rattle.nf_base.specs.View.{block_of}
use Rattle.nf_engine.specs.Course.{news, lookups, bound_by, BlockFits, HasRoom}
use Rattle.nf_engine.specs.declared.context.Context.{Context}

-- a statement in front of three blocks, the last of which may be none
counted : (p : Statement → Bool) (s : Statement) (ss : List Statement) → count_by p (s ∷ ss) ≡ cond (p s) 1 0 + count_by p ss
counted p s ss = sum_by-cons (λ x. cond (p x) 1 0) s ss

joined : (p : Statement → Bool) (xs ys : List Statement) → count_by p (xs ++ ys) ≡ count_by p xs + count_by p ys
joined p xs ys = sum_by-append (λ x. cond (p x) 1 0) xs ys

two : (p : Statement → Bool) (xs ys zs : List Statement) → count_by p (xs ++ (ys ++ zs)) ≡ count_by p xs + (count_by p ys + count_by p zs)
two p xs ys zs = joined p xs (ys ++ zs) ∙ ap (λ n. count_by p xs + n) (joined p ys zs)

three : (p : Statement → Bool) (xs ys zs ws : List Statement) → count_by p (xs ++ (ys ++ (zs ++ ws))) ≡ count_by p xs + (count_by p ys + (count_by p zs + count_by p ws))
three p xs ys zs ws = joined p xs (ys ++ (zs ++ ws)) ∙ ap (λ n. count_by p xs + n) (two p ys zs ws)

question_binds : (q : Question) → cond (is_entry_question q) 1 0 ≡ bound_by q
question_binds (Get place chain m key var) = refl
question_binds (Find place chain at guards var) = refl
question_binds (Test place comparison left right) = refl

pub news_are : (b : Block) → count_by is_new (statements b) ≡ news b
news_are (End e) = refl
news_are (Do op next) = let a = counted is_new (Does op) (statements next) in let b = news_are next in omega (arith, a, b)
news_are (Ask q hit miss next) =
    let a = counted is_new (Asks q) (statements hit ++ (statements miss ++ statements next)) in
    let b = two is_new (statements hit) (statements miss) (statements next) in
    let x = news_are hit in
    let y = news_are miss in
    let z = news_are next in
    omega (arith, a, b, x, y, z)
news_are (Make n made taken full next) =
    let a = counted is_new (Makes n) (statements made ++ (statements taken ++ (statements full ++ statements next))) in
    let b = three is_new (statements made) (statements taken) (statements full) (statements next) in
    let w = news_are made in
    let x = news_are taken in
    let y = news_are full in
    let z = news_are next in
    omega (arith, a, b, w, x, y, z)

pub lookups_are : (b : Block) → count_by is_lookup (statements b) ≡ lookups b
lookups_are (End e) = refl
lookups_are (Do op next) = let a = counted is_lookup (Does op) (statements next) in let b = lookups_are next in omega (arith, a, b)
lookups_are (Ask q hit miss next) =
    let a = counted is_lookup (Asks q) (statements hit ++ (statements miss ++ statements next)) in
    let b = two is_lookup (statements hit) (statements miss) (statements next) in
    let binds = question_binds q in
    let x = lookups_are hit in
    let y = lookups_are miss in
    let z = lookups_are next in
    omega (arith, a, b, binds, x, y, z)
lookups_are (Make n made taken full next) =
    let a = counted is_lookup (Makes n) (statements made ++ (statements taken ++ (statements full ++ statements next))) in
    let b = three is_lookup (statements made) (statements taken) (statements full) (statements next) in
    let w = lookups_are made in
    let x = lookups_are taken in
    let y = lookups_are full in
    let z = lookups_are next in
    omega (arith, a, b, w, x, y, z)

split : (P : Statement → Type 0) (xs ys : List Statement) → AllByRecursion P (xs ++ ys) → AllByRecursion P xs × AllByRecursion P ys
split P [] ys h = (tt, h)
split P (x ∷ xs) ys h = let rest = split P xs ys h.1 in ((h.0, rest.0), rest.1)

fits_by : (decls : List ChainDecl) (b : Block) → AllByRecursion (Fits decls) (statements b) → BlockFits decls b
fits_by decls (End e) h = tt
fits_by decls (Do op next) h = fits_by decls next h.1
fits_by decls (Ask q hit miss next) h =
    let P = Fits decls in
    let a = split P (statements hit) (statements miss ++ statements next) h.1 in
    let b = split P (statements miss) (statements next) a.1 in
    (h.0, fits_by decls hit a.0, fits_by decls miss b.0, fits_by decls next b.1)
fits_by decls (Make n made taken full next) h =
    let P = Fits decls in
    let a = split P (statements made) (statements taken ++ (statements full ++ statements next)) h.1 in
    let b = split P (statements taken) (statements full ++ statements next) a.1 in
    let c = split P (statements full) (statements next) b.1 in
    (h.0, fits_by decls made a.0, fits_by decls taken b.0, fits_by decls full c.0, fits_by decls next c.1)

-- a handler has room for its block
pub room_at : (h : Handler) (c : Context) → c.vars ≡ [] → c.picks ≡ [] → HasRoom c (block_of h.block)
room_at h c no_vars no_picks =
    let few_news = h.within.0 in
    let few_lookups = h.within.1 in
    let news_is = news_are (block_of h.block) in
    let lookups_is = lookups_are (block_of h.block) in
    record {
      vars = rw no_vars (omega (arith, few_lookups, lookups_is));
      picks = rw no_picks (omega (arith, few_news, news_is));
    }

-- a handler fits where all do
pub fits_at : (f : Func) (door : Door) (h : Handler) → handler_at (function_of f) door ≡ Some (block_of h.block) → BlockFits f.chains (block_of h.block)
fits_at f door h at =
    let all = All-contains (λ (b : Block). All (Fits f.chains) (statements b)) (blocks (function_of f)) (block_of h.block) f.fits (at_door (function_of f) door (block_of h.block) at) in
    fits_by f.chains (block_of h.block) (recursion_from_All (Fits f.chains) (statements (block_of h.block)) all)
