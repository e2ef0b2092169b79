-- The first bytes of a list, of which not all are held.
use Rattle.std.proofs.Common.{◌≡◌, ℕ, ◌+◌, ◌-◌, ◌≤◌, min, List, ◌++◌, length, take, drop, refl, sym, ap, ◌∙◌, arith}
use Rattle.std.proofs.lemmas.List.{drop_at, take-append-drop, take-take, take_all, drop-take, length-drop, length-take}
use Rattle.pcap_file.specs.declared.form.Endian.{Endian}
use Rattle.pcap_file.specs.declared.form.Endian.TheVariants.{Big, Little}
use Rattle.pcap_file.specs.Form.{number_in}
use Rattle.pcap_file.proofs.Reaching.{number_front, number_behind}
use Rattle.byteorder.specs.Numbers.{big_from-append, little_from-append}
use Rattle.pcapng_file.specs.Options.{short_in}
use Rattle.pcapng_file.specs.Taking.{IsFront}

-- the rest behind what is held
pub all_is : (most count : ℕ) (held all : List ℕ) → IsFront most held count all → held ++ drop most all ≡ all
all_is most count held all f = ap (λ (xs : List ℕ). xs ++ drop most all) f.held_is ∙ take-append-drop most all

-- a number that stands in what is held
pub front_number : (order : Endian) (n most count : ℕ) (held all : List ℕ) → IsFront most held count all → n + 4 ≤ length held → number_in order (drop n all) ≡ number_in order (drop n held)
front_number order n most count held all f le =
    ap (λ (xs : List ℕ). number_in order (drop n xs)) (sym (all_is most count held all f)) ∙ number_behind order n held (drop most all) le

pub front_first : (order : Endian) (most count : ℕ) (held all : List ℕ) → IsFront most held count all → 4 ≤ length held → number_in order all ≡ number_in order held
front_first order most count held all f le =
    ap (number_in order) (sym (all_is most count held all f)) ∙ number_front order held (drop most all) le

pub front_drop : (n most count : ℕ) (held all : List ℕ) → IsFront (n + most) held count all → IsFront most (drop n held) (count - n) (drop n all)
front_drop n most count held all f = record {
  long = omega (arith, length-drop n all, f.long);
  held_is = ap (drop n) f.held_is ∙ drop-take n most all;
}

pub front_take : (n most count : ℕ) (held all : List ℕ) → IsFront most held count all → n ≤ most → take n all ≡ take n held
front_take n most count held all f le = sym (ap (take n) f.held_is ∙ take-take n most all le)

-- where no more than what is held can be there, all is held
pub front_all : (most count : ℕ) (held all : List ℕ) → IsFront most held count all → count ≤ most → all ≡ held
front_all most count held all f le = sym (f.held_is ∙ take_all most all (omega (arith, f.long)))

pub front_long : (most count : ℕ) (held all : List ℕ) → IsFront most held count all → length held ≡ min count most
front_long most count held all f = omega (arith, ap length f.held_is, length-take most all, f.long)

-- what a slice from a place to its end holds
pub rest_is : (n : ℕ) (xs : List ℕ) → take (length xs - n) (drop n xs) ≡ drop n xs
rest_is n xs = take_all (length xs - n) (drop n xs) (omega (arith, length-drop n xs))

pub number_from : (order : Endian) (n v : ℕ) (xs : List ℕ) → v ≡ number_in order (take (length xs - n) (drop n xs)) → v ≡ number_in order (drop n xs)
number_from order n v xs e = e ∙ ap (number_in order) (rest_is n xs)

pub front_rest : (n most count : ℕ) (held all : List ℕ) → IsFront (n + most) held count all → IsFront most (take (length held - n) (drop n held)) (count - n) (drop n all)
front_rest n most count held all f =
    let tail = front_drop n most count held all f in
    record { long = tail.long; held_is = rest_is n held ∙ tail.held_is }

-- what was taken behind what was held
pub behind_is : (now before held new more : List ℕ) → now ≡ new → before ≡ held → new ≡ held ++ more → take (length now - length before) (drop (length before) now) ≡ more
behind_is now before held new more e f grown =
    rest_is (length before) now ∙ ap (drop (length before)) (e ∙ grown) ∙ drop_at held more (length before) (sym (ap length f))
