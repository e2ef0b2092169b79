-- Lines of the sample that keep the share rule, and lines that don't.
use Rattle.std.proofs.Common.{◌≡◌, ℕ, zero, suc, ◌%◌, ◌==◌, ◌<◌, true, false, [], ◌∷◌, refl, ap, ◌∙◌, subst, arith}
use Rattle.std.proofs.lemmas.Option.{same_Some}
use Rattle.nf_base.specs.declared.share.Share.{Share}
use Rattle.nf_base.specs.Shares.{owns, AreOwn}
use Rattle.nf_base.specs.Step.{StepResult}
use Rattle.shard_laws.specs.Rule.{AreShares, KeepShareRule}
use Rattle.shard_laws.specs.Rows.{counted, by_source, second, third, fourth, fifth, TwoSharesKeepTheRule}

owns_is : (share : ℕ → Share) (w i : ℕ) → AreShares 2 share → w < 2 → owns (share w) i ≡ (i % 2 == w)
owns_is share w i are lt = ap (λ (n : ℕ). i % n == (share w).queue) (are.of w lt) ∙ ap (λ (v : ℕ). i % 2 == v) (are.queue w lt)

one_own : (share : Share) (i : ℕ) → owns share i ≡ true → AreOwn share (i ∷ [])
one_own share i e zero d lt = e
one_own share i e (suc k) d lt = absurd (omega (arith, lt))

none_own : (share : Share) → AreOwn share []
none_own share k d lt = absurd (omega (arith, lt))

kept_at : (share : ℕ → Share) (w i : ℕ) → AreShares 2 share → w < 2 → (i % 2 == w) ≡ true → AreOwn (share w) (i ∷ [])
kept_at share w i are lt e = one_own (share w) i (owns_is share w i are lt ∙ e)

pub lines_keep : TwoSharesKeepTheRule
lines_keep share are = record {
  kept = (
    record { own = kept_at share 0 0 are (omega arith) refl; granted = refl },
    λ a p. subst (λ (x : StepResult). KeepShareRule share by_source counted x.state (second ∷ third ∷ fourth ∷ fifth ∷ [])) (same_Some _ _ p) (
      record { own = kept_at share 1 1 are (omega arith) refl; granted = refl },
      λ b q. subst (λ (x : StepResult). KeepShareRule share by_source counted x.state (third ∷ fourth ∷ fifth ∷ [])) (same_Some _ _ q) (
        record { own = none_own (share 0); granted = refl },
        λ d r. subst (λ (x : StepResult). KeepShareRule share by_source counted x.state (fourth ∷ fifth ∷ [])) (same_Some _ _ r) (
          record { own = kept_at share 1 3 are (omega arith) refl; granted = refl },
          λ e t. subst (λ (x : StepResult). KeepShareRule share by_source counted x.state (fifth ∷ [])) (same_Some _ _ t)
              (record { own = none_own (share 0); granted = refl }, λ g u. tt),
        ),
      ),
    ),
  );
  own = record { own = kept_at share 1 3 are (omega arith) refl; granted = refl };
  other = λ k.
      let own : owns (share 1) 2 ≡ true = k.own 0 0 (omega arith) in
      let not : owns (share 1) 2 ≡ false = owns_is share 1 2 are (omega arith) in
      cc;
  full = refl;
  refused = λ k. let e : true ≡ false = k.granted in cc;
  hit = record { own = none_own (share 0); granted = refl };
}
