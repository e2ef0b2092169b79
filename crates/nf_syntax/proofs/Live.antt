-- From every place some items lead to an end, and nothing that may be left out begins with them.
use Rattle.std.proofs.Common.{◌≡◌, ◌∙◌, ◌∷◌, false, Some, List, [], refl, ap, eq-eqb, nat_le, ◌==◌}
use Rattle.nf_base.specs.declared.expr.Comparison.TheVariants as comparisons
use Rattle.nf_base.specs.declared.packet.Field.TheVariants as fields
use Rattle.nf_base.specs.declared.packet.Family.TheVariants as families
use Rattle.nf_tokens.specs.Signs.{number_of}
use Rattle.nf_tokens.specs.Tokens.{start}
use Rattle.nf_tokens.specs.declared.token.Sign.{Sign}
use Rattle.nf_tokens.specs.declared.token.Sign.TheVariants as signs
use Rattle.nf_tree.specs.declared.place.Name.{Name}
use Rattle.nf_tree.specs.declared.place.Literal.{Literal}
use Rattle.nf_tree.specs.Tree.{Tree, Expression, Number, Index, Unguarded, Write, FallsOff, Missing, End}
use Rattle.nf_syntax.specs.declared.head.SetHead.{SetHead}
use Rattle.nf_syntax.specs.Items.{ANumber, Marked, name, number, field, sign, word, opening, operand}
use Rattle.nf_syntax.specs.Statements.{Does}
use Rattle.nf_syntax.specs.Machine.{Place, TextEnd, NameAt, NumberAt, FieldAt, SignAt, CloseAt, AtomAt, NamedAt, ColumnAt, FactorsAt, TermsAt, ComparisonAt, MoreAt, GivenAt, MoreGivenAt, MoreLabelsAt, MoreNumbersAt, ContentsAt, WhereAt, BlockAt, BodyAt, WrittenAt, OptionalAt, PartsAt, DeclarationsAt, FamilyAt, HandlersAt, go_if, giving}
use Rattle.nf_syntax.proofs.Going.{goes, on_row, agree_itself, IsFirm, misses, no_factor, no_term, skip_optional, skip_more, skip_more_given, skip_more_labels, skip_more_numbers, skip_factors, skip_terms, skip_where, skip_family, skip_declarations}

-- an end that can be reached
pub record Ending (place : Place) : Type 0 where
  pub more : List Marked
  pub tree : Tree
  pub firm : IsFirm more
  pub reached : goes place more ≡ Some tree

pass : (s : Sign) (k : Place) (ms : List Marked) → goes (SignAt s k) (sign s ∷ ms) ≡ goes k ms
pass s k ms = ap (λ b. on_row (go_if b k) false (λ next. goes next ms)) (eq-eqb (number_of s) (number_of s) refl)

no_name : Name
no_name = record { bytes = []; place = start }

zero_here : Literal
zero_here = record { value = 0; place = start }

abbrev ttl_here : SetHead
ttl_here = record { field = fields.Ttl; place = start }

pub live : (place : Place) → Ending place
live (TextEnd t) = record { more = []; tree = t; firm = tt; reached = refl }
live (NameAt k) = let e = live (k no_name) in record { more = name no_name ∷ e.more; tree = e.tree; firm = tt; reached = e.reached }
live (NumberAt k) = let e = live (k zero_here) in record { more = number zero_here ∷ e.more; tree = e.tree; firm = tt; reached = e.reached }
live (FieldAt k) = let e = live (k ttl_here) in record { more = field fields.Ttl start ∷ e.more; tree = e.tree; firm = tt; reached = e.reached }
live (SignAt s k) = let e = live k in record { more = sign s ∷ e.more; tree = e.tree; firm = tt; reached = pass s k e.more ∙ e.reached }
live (CloseAt k) = let e = live (k start) in record { more = word signs.CloseParenthesis start ∷ e.more; tree = e.tree; firm = tt; reached = e.reached }
live (AtomAt room n k) = let e = live (k (Number zero_here)) in record { more = operand n (ANumber zero_here) ∷ e.more; tree = e.tree; firm = tt; reached = agree_itself (nat_le 64 n) _ ∙ e.reached }
live (NamedAt room n x k) = let e = live (k (Index x)) in record { more = sign signs.Dot ∷ sign signs.Index ∷ e.more; tree = e.tree; firm = tt; reached = e.reached }
live (ColumnAt x k) = let e = live (k (Index x)) in record { more = sign signs.Index ∷ e.more; tree = e.tree; firm = tt; reached = e.reached }
live (FactorsAt room n v k) = let e = live (k v) in record { more = e.more; tree = e.tree; firm = e.firm; reached = skip_factors room n v k e.more (no_factor e.more e.firm) ∙ e.reached }
live (TermsAt room n v k) = let e = live (k v) in record { more = e.more; tree = e.tree; firm = e.firm; reached = skip_terms room n v k e.more (no_term e.more e.firm) ∙ e.reached }
live (ComparisonAt k) = let e = live (k comparisons.Equal) in record { more = sign signs.Equal ∷ e.more; tree = e.tree; firm = tt; reached = e.reached }
live (MoreAt vs k) = let e = live (k vs) in record { more = e.more; tree = e.tree; firm = e.firm; reached = skip_more vs k e.more e.firm ∙ e.reached }
live (GivenAt k) =
    let z = Number zero_here in
    let g = giving no_name z in
    let more = λ (v : Expression). MoreGivenAt (giving no_name v ∷ []) k in
    let e = live (k (g ∷ [])) in record {
      more = name no_name ∷ sign signs.Assign ∷ number zero_here ∷ e.more;
      tree = e.tree;
      firm = tt;
      reached = skip_factors 32 0 z (λ p. TermsAt 32 0 p more) e.more (no_factor e.more e.firm) ∙ skip_terms 32 0 z more e.more (no_term e.more e.firm)
          ∙ skip_more_given (g ∷ []) k e.more e.firm ∙ e.reached;
    }
live (MoreGivenAt gs k) = let e = live (k gs) in record { more = e.more; tree = e.tree; firm = e.firm; reached = skip_more_given gs k e.more e.firm ∙ e.reached }
live (MoreLabelsAt ls k) = let e = live (k ls) in record { more = e.more; tree = e.tree; firm = e.firm; reached = skip_more_labels ls k e.more e.firm ∙ e.reached }
live (MoreNumbersAt ns k) = let e = live (k ns) in record { more = e.more; tree = e.tree; firm = e.firm; reached = skip_more_numbers ns k e.more e.firm ∙ e.reached }
live (ContentsAt k) = let e = live (k []) in record { more = sign signs.Semicolon ∷ e.more; tree = e.tree; firm = tt; reached = e.reached }
live (WhereAt k) = let e = live (k Unguarded) in record { more = e.more; tree = e.tree; firm = e.firm; reached = skip_where k e.more e.firm ∙ e.reached }
live (BlockAt room k) = let e = live (k (End FallsOff)) in record {
  more = opening signs.OpenBrace room ∷ sign signs.CloseBrace ∷ e.more;
  tree = e.tree;
  firm = tt;
  reached = agree_itself (room == 0) _ ∙ e.reached;
}
live (BodyAt room k) = let e = live (k (End FallsOff)) in record { more = sign signs.CloseBrace ∷ e.more; tree = e.tree; firm = tt; reached = e.reached }
live (WrittenAt x k) =
    let e = live (k (Does (Write x no_name (Number zero_here)))) in record {
      more = sign signs.Dot ∷ name no_name ∷ sign signs.Assign ∷ number zero_here ∷ sign signs.Semicolon ∷ e.more;
      tree = e.tree;
      firm = tt;
      reached = e.reached;
    }
live (OptionalAt s room k) = let e = live (k (End Missing)) in record {
  more = e.more;
  tree = e.tree;
  firm = e.firm;
  reached = skip_optional s room k e.more (misses s e.more e.firm) ∙ e.reached;
}
live (PartsAt ps k) = let e = live (k ps) in record { more = sign signs.CloseBrace ∷ e.more; tree = e.tree; firm = tt; reached = e.reached }
live (DeclarationsAt ds k) = let e = live (k ds) in record { more = e.more; tree = e.tree; firm = e.firm; reached = skip_declarations ds k e.more e.firm ∙ e.reached }
live (FamilyAt k) = let e = live (k families.Four) in record { more = e.more; tree = e.tree; firm = e.firm; reached = skip_family k e.more e.firm ∙ e.reached }
live (HandlersAt hs k) = let e = live (k hs) in record { more = sign signs.CloseBrace ∷ e.more; tree = e.tree; firm = tt; reached = e.reached }
