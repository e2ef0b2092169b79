-- What a store, an edit and an end do, and what is declared.
use Rattle.std.proofs.Common.{◌≡◌, ◌≢◌, ◌<◌, ◌≤◌, ℕ, zero, suc, Bool, true, false, nat_lt, List, [], ◌∷◌, length, map, Option, Some, None, slice_get, slice_set, if◌then◌else◌, refl, ap, ◌∙◌, arith}
use Rattle.std.proofs.lemmas.Option.{same_Some}
use Rattle.std.proofs.lemmas.Bool.{ltb-true, ltb-false}
use Rattle.nf_base.specs.declared.decl.ChainDecl.{ChainDecl}
use Rattle.nf_base.specs.declared.packet.Field.{Field}
use Rattle.nf_base.specs.declared.packet.Field.TheVariants.{Time, Length, SrcMac, DstMac, SrcIp, DstIp, SrcIp6, DstIp6, Proto, Ttl, SrcPort, DstPort}
use Rattle.nf_base.specs.declared.width.Width.TheVariants.{W16}
use Rattle.nf_base.specs.declared.done.Action.TheVariants.{Drop, To}
use Rattle.nf_base.specs.declared.done.Edits.{Edits}
use Rattle.nf_base.specs.Values.{field_width, narrowed, is_settable}
use Rattle.nf_base.specs.Chains.{no_chain, array_at}
use Rattle.nf_base.specs.Context.{Context, value, given}
use Rattle.nf_base.specs.Operations.{stored, edited}
use Rattle.nf_base.specs.Course.{Ended, sent}
use Rattle.nf_base.specs.Step.{if_none_left}
use Rattle.nf_laws.specs.Effects.{Stores, StoresGiveCells, edit_of, SetsEdit, DeclarationsAreFound, ChainsAreFound, ArraysAreFound, BlocksEndSo, FallingOffDrops}
use Rattle.nf_laws.proofs.Indexed.{set_length, set_here, set_other, set_past, get_set, get_other, get_there, get_past}

-- a stored cell
array_now : (arrays : List (List ℕ)) (array : ℕ) (cells : List ℕ) (o : Option (List ℕ)) → slice_get arrays array ≡ o → (length cells ≡ length (array_at arrays array)) → array_at (slice_set arrays array cells) array ≡ cells
array_now arrays array cells (Some x) e l = get_set arrays array x cells [] e
array_now arrays array [] None e l = ap (λ xs. array_at xs array) (set_past arrays array [] e) ∙ get_past arrays array [] e
array_now arrays array (v ∷ cells) None e l = let past : array_at arrays array ≡ [] = get_past arrays array [] e in let len : length (v ∷ cells) ≡ 0 = l ∙ ap length past in absurd (omega (arith, len))

stores : (array i v : ℕ) (c : Context) → Stores array i v c (stored array i v c)
stores array i v c =
    let cells = array_at c.state.arrays array in
    let new = slice_set cells i v in
    let now : array_at (slice_set c.state.arrays array new) array ≡ new = array_now c.state.arrays array new (slice_get c.state.arrays array) refl (set_length cells i v) in
    record {
      value_now = λ before e. ap (λ xs. slice_get xs i) now ∙ set_here cells i before v e;
      cells = λ other d. ap (λ xs. slice_get xs other) now ∙ set_other cells i other v d;
      size = ap length now ∙ set_length cells i v;
      arrays = λ k d. get_other c.state.arrays array k new [] d;
      count = set_length c.state.arrays array new;
      chains = refl;
      rest = record { vars = refl; edits = refl; left = refl };
    }

pub stores_give : StoresGiveCells
stores_give p c place array at g = stores array (narrowed W16 (value p c at)) (given p c g) c

-- an edit
edit_here : (field : Field) (v : ℕ) (edits : Edits) → is_settable field ≡ true → edit_of field (edited field v edits) ≡ Some (narrowed (field_width field) v)
edit_here SrcMac v edits e = refl
edit_here DstMac v edits e = refl
edit_here SrcIp v edits e = refl
edit_here DstIp v edits e = refl
edit_here SrcIp6 v edits e = refl
edit_here DstIp6 v edits e = refl
edit_here Ttl v edits e = refl
edit_here SrcPort v edits e = refl
edit_here DstPort v edits e = refl
edit_here Time v edits e = cc
edit_here Length v edits e = cc
edit_here Proto v edits e = cc

no_edit : (field : Field) (v : ℕ) (edits : Edits) → is_settable field ≡ false → edited field v edits ≡ edits
no_edit Time v edits e = refl
no_edit Length v edits e = refl
no_edit Proto v edits e = refl
no_edit SrcMac v edits e = cc
no_edit DstMac v edits e = cc
no_edit SrcIp v edits e = cc
no_edit DstIp v edits e = cc
no_edit SrcIp6 v edits e = cc
no_edit DstIp6 v edits e = cc
no_edit Ttl v edits e = cc
no_edit SrcPort v edits e = cc
no_edit DstPort v edits e = cc

edit_other : (field other : Field) (v : ℕ) (edits : Edits) → other ≢ field → edit_of other (edited field v edits) ≡ edit_of other edits
edit_other SrcMac SrcMac v edits d = absurd (d refl)
edit_other DstMac DstMac v edits d = absurd (d refl)
edit_other SrcIp SrcIp v edits d = absurd (d refl)
edit_other DstIp DstIp v edits d = absurd (d refl)
edit_other SrcIp6 SrcIp6 v edits d = absurd (d refl)
edit_other DstIp6 DstIp6 v edits d = absurd (d refl)
edit_other Ttl Ttl v edits d = absurd (d refl)
edit_other SrcPort SrcPort v edits d = absurd (d refl)
edit_other DstPort DstPort v edits d = absurd (d refl)
edit_other field other v edits d = refl

pub sets_edit : SetsEdit
sets_edit p c field g = record {
  value_now = edit_here field (given p c g) c.edits;
  none = no_edit field (given p c g) c.edits;
  fields = λ other d. edit_other field other (given p c g) c.edits d;
  state = refl;
  vars = refl;
  left = refl;
}

-- declarations
pub declarations_found : DeclarationsAreFound
declarations_found [] k decl e = cc
declarations_found (d ∷ decls) zero decl e = let same = same_Some _ _ e in record { maps = ap (λ (x : ChainDecl). x.maps) same; zeros = ap (λ (x : ChainDecl). map (λ _. 0) x.columns) same; lifetime = ap (λ (x : ChainDecl). x.lifetime) same }
declarations_found (d ∷ decls) (suc k) decl e = let w = declarations_found decls k decl e in record { maps = w.maps; zeros = w.zeros; lifetime = w.lifetime }

pub chains_found : ChainsAreFound
chains_found chains k chain e = get_there chains k chain no_chain e

pub arrays_found : ArraysAreFound
arrays_found arrays k cells e = get_there arrays k cells [] e

-- ends
sent_there : (ports port : ℕ) → port < ports → sent ports port ≡ To port
sent_there ports port lt = of (nat_lt port ports) refl
  where
    of : (b : Bool) → nat_lt port ports ≡ b → (if b then To port else Drop) ≡ To port
    of true e = refl
    of false e = let le = ltb-false port ports e in absurd (omega arith)

not_sent : (ports port : ℕ) → ports ≤ port → sent ports port ≡ Drop
not_sent ports port le = of (nat_lt port ports) refl
  where
    of : (b : Bool) → nat_lt port ports ≡ b → (if b then To port else Drop) ≡ Drop
    of true e = let lt = ltb-true port ports e in absurd (omega arith)
    of false e = refl

pub blocks_end : BlocksEndSo
blocks_end stops p c port = record {
  falls_off = refl;
  flood = refl;
  discard = refl;
  forward = λ lt. ap (λ a. Ended a c) (sent_there p.ports (value p c port) lt);
  no_port = λ le. ap (λ a. Ended a c) (not_sent p.ports (value p c port) le);
}

pub falling_off : FallingOffDrops
falling_off choices c e = ap (λ left. if_none_left choices left c Drop) e
