-- Tests of one text have the same sign and the same sides.
use Rattle.std.proofs.Common.{◌≡◌, ℕ, true, List, [], ◌∷◌, ◌++◌, get_or, refl, ap, sym, ◌∙◌, append_assoc}
use Rattle.std.proofs.lemmas.Slice.Eq.{bytes_eq-Decides}
use Rattle.nf_base.specs.declared.packet.Field.{Field}
use Rattle.nf_base.specs.declared.packet.Field.TheVariants.{Time, Length, SrcMac, DstMac, SrcIp, DstIp, SrcIp6, DstIp6, Proto, Ttl, SrcPort, DstPort}
use Rattle.nf_base.specs.declared.expr.Operator.{Operator}
use Rattle.nf_base.specs.declared.expr.Operator.TheVariants.{Plus, Minus, Times, Over, Modulo, And}
use Rattle.nf_base.specs.Text.{Expression, Number, Read, Index, Label, Column, Cell, Both}
use Rattle.path_walk.specs.declared.test.Sign.{Sign}
use Rattle.path_walk.specs.declared.test.Sign.TheVariants.{Equal, Less, AtMost}
use Rattle.path_walk.specs.Tests.{TestText, field_number, operator_number, sign_number, tokens, test_tokens, same_text}

abbrev fields : List Field
fields = Time ∷ Length ∷ SrcMac ∷ DstMac ∷ SrcIp ∷ DstIp ∷ Proto ∷ Ttl ∷ SrcPort ∷ DstPort ∷ SrcIp6 ∷ DstIp6 ∷ []

field_back : (f : Field) → get_or fields (field_number f) Time ≡ f
field_back Time = refl
field_back Length = refl
field_back SrcMac = refl
field_back DstMac = refl
field_back SrcIp = refl
field_back DstIp = refl
field_back SrcIp6 = refl
field_back DstIp6 = refl
field_back Proto = refl
field_back Ttl = refl
field_back SrcPort = refl
field_back DstPort = refl

pub one_field : (f g : Field) → field_number f ≡ field_number g → f ≡ g
one_field f g e = sym (field_back f) ∙ ap (λ (n : ℕ). get_or fields n Time) e ∙ field_back g

abbrev operators : List Operator
operators = Plus ∷ Minus ∷ Times ∷ Over ∷ Modulo ∷ And ∷ []

operator_back : (o : Operator) → get_or operators (operator_number o) Plus ≡ o
operator_back Plus = refl
operator_back Minus = refl
operator_back Times = refl
operator_back Over = refl
operator_back Modulo = refl
operator_back And = refl

one_operator : (o p : Operator) → operator_number o ≡ operator_number p → o ≡ p
one_operator o p e = sym (operator_back o) ∙ ap (λ (n : ℕ). get_or operators n Plus) e ∙ operator_back p

abbrev signs : List Sign
signs = Equal ∷ Less ∷ AtMost ∷ []

sign_back : (s : Sign) → get_or signs (sign_number s) Equal ≡ s
sign_back Equal = refl
sign_back Less = refl
sign_back AtMost = refl

one_sign : (s t : Sign) → sign_number s ≡ sign_number t → s ≡ t
one_sign s t e = sym (sign_back s) ∙ ap (λ (n : ℕ). get_or signs n Equal) e ∙ sign_back t

-- an expression and what follows it
record Parted (a b : Expression) (x y : List ℕ) : Type 0 where
  pub first : a ≡ b
  pub rest : x ≡ y

parted : (a b : Expression) (x y : List ℕ) → tokens a ++ x ≡ tokens b ++ y → Parted a b x y
parted (Number m) (Number n) x y e = record { first = cc; rest = cc }
parted (Read f) (Read g) x y e =
    let n : field_number f ≡ field_number g = cc in
    record { first = ap Read (one_field f g n); rest = cc }
parted (Index v) (Index w) x y e = record { first = cc; rest = cc }
parted (Label v l) (Label w k) x y e = record { first = cc; rest = cc }
parted (Column v l) (Column w k) x y e = record { first = cc; rest = cc }
parted (Cell p a at) (Cell q b to) x y e =
    let h : tokens at ++ x ≡ tokens to ++ y = cc in
    let w = parted at to x y h in
    let first : at ≡ to = w.first in
    record { first = cc; rest = w.rest }
parted (Both o l r) (Both p m s) x y e =
    let n : operator_number o ≡ operator_number p = cc in
    let h : (tokens l ++ tokens r) ++ x ≡ (tokens m ++ tokens s) ++ y = cc in
    let k : tokens l ++ (tokens r ++ x) ≡ tokens m ++ (tokens s ++ y) = sym (append_assoc (tokens l) (tokens r) x) ∙ h ∙ append_assoc (tokens m) (tokens s) y in
    let v = parted l m (tokens r ++ x) (tokens s ++ y) k in
    let w = parted r s x y v.rest in
    let op : o ≡ p = one_operator o p n in
    let left : l ≡ m = v.first in
    let right : r ≡ s = w.first in
    record { first = cc; rest = w.rest }
parted a b x y e = cc

pub whole : (a b : Expression) → tokens a ≡ tokens b → a ≡ b
whole a b e = (parted a b [] [] (ap (λ xs. xs ++ []) e)).first

abbrev made : Sign → Expression → Expression → TestText
made s l r = record { sign = s; left = l; right = r }

made_same : (s t : Sign) (l m r q : Expression) → s ≡ t → l ≡ m → r ≡ q → made s l r ≡ made t m q
made_same s t l m r q a b c = ap (λ x. made x l r) a ∙ ap (λ x. made t x r) b ∙ ap (made t m) c

pub one_text : (a b : TestText) → test_tokens a ≡ test_tokens b → a ≡ b
one_text a b e =
    let n : sign_number a.sign ≡ sign_number b.sign = cc in
    let h : tokens a.left ++ tokens a.right ≡ tokens b.left ++ tokens b.right = cc in
    let v = parted a.left b.left (tokens a.right) (tokens b.right) h in
    let sign : a.sign ≡ b.sign = one_sign a.sign b.sign n in
    let left : a.left ≡ b.left = v.first in
    let right : a.right ≡ b.right = whole a.right b.right v.rest in
    made_same a.sign b.sign a.left b.left a.right b.right sign left right

pub text_same : (a b : TestText) → same_text a b ≡ true → a ≡ b
text_same a b e = one_text a b ((bytes_eq-Decides (test_tokens a) (test_tokens b)).0 e)

pub same_itself : (a : TestText) → same_text a a ≡ true
same_itself a = (bytes_eq-Decides (test_tokens a) (test_tokens a)).1 refl

pub same_from : (a b : TestText) → a ≡ b → same_text a b ≡ true
same_from a b e = (bytes_eq-Decides (test_tokens a) (test_tokens b)).1 (ap test_tokens e)
