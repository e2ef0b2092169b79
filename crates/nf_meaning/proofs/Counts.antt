-- How many `new` stand in a statement with its blocks and what is behind it.
use Rattle.std.proofs.Common.{◌≡◌, ◌+◌, List, [], ◌∷◌, ◌++◌, arith}
use Rattle.std.proofs.lemmas.List.Sums.{sum_by-append}
use Rattle.std.specs.List.{count_by}
use Rattle.nf_base.specs.Statements.{Statement, Makes, is_new, statements}
use Rattle.nf_base.specs.Text.{Block, Creation, Make}
use Rattle.nf_meaning.specs.Course.{news}

both : (xs ys : List Statement) → count_by is_new (xs ++ ys) ≡ count_by is_new xs + count_by is_new ys
both xs ys = sum_by-append _ xs ys

pub news_make : (n : Creation) (made taken full next : Block) → news (Make n made taken full next) ≡ 1 + news made + news taken + news full + news next
news_make n made taken full next =
    let m = statements made in
    let t = statements taken in
    let f = statements full in
    let x = statements next in
    let first : news (Make n made taken full next) ≡ 1 + count_by is_new (m ++ (t ++ (f ++ x))) = both (Makes n ∷ []) (m ++ (t ++ (f ++ x))) in
    let second = both m (t ++ (f ++ x)) in
    let third = both t (f ++ x) in
    let fourth = both f x in
    omega (arith, first, second, third, fourth)
