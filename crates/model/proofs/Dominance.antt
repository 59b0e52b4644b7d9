-- Dominance is a partial order on the labels.
use mathlib.Core.Path.{◌≡◌}
use Prim.Native.Nat.{ℕ, ◌+◌, ◌*◌, ◌/◌, ◌≤◌, ◌<◌}
use native.Mathlib.Omega.{arith}
use lib.Dec.{T}
use mir.Facts.{ltb_yes, yes_ltb, leb_yes, yes_leb}
use Rattle.model.specs.Lists.{◌∈◌}
use Rattle.model.specs.Label.{labels, is_label, level, sizing, fabric, cost, includes, dominates}
use Rattle.model.proofs.Bools.{and_l, and_r, both}
use Rattle.model.proofs.Walks.{in-range}

pub label-lt : (n : ℕ) → T (is_label n) → n < 32
unfolding is_label
label-lt n t = ltb_yes t

pub lt-label : (n : ℕ) → n < 32 → T (is_label n)
unfolding is_label
lt-label n h = yes_ltb h

-- it is one of the list
pub in-labels : (n : ℕ) → T (is_label n) → n ∈ labels
in-labels n t = in-range (λ k. k) 0 32 n (omega arith) (label-lt n t)

-- what dominance says, part by part
record Above (l m : ℕ) : Type 0 where
  upper : T (is_label l)
  lower : T (is_label m)
  by_level : level m ≤ level l
  by-sizing : sizing m ≤ sizing l
  by-fabric : fabric m ≤ fabric l
  by-cost : cost m ≤ cost l

above : (l m : ℕ) → T (dominates l m) → Above l m
unfolding dominates includes
above l m t =
    record {
      upper = search (and_l, and_r);
      lower = search (and_l, and_r);
      by_level = leb_yes (search (and_l, and_r));
      by-sizing = leb_yes (search (and_l, and_r));
      by-fabric = leb_yes (search (and_l, and_r));
      by-cost = leb_yes (search (and_l, and_r));
    }

above-dominates : (l m : ℕ) → Above l m → T (dominates l m)
unfolding dominates includes
above-dominates l m a =
    let u : T (is_label l) = a.upper in
    let v : T (is_label m) = a.lower in
    search (both, yes_leb)

pub dominates-upper : (l m : ℕ) → T (dominates l m) → T (is_label l)
dominates-upper l m t = (above l m t).upper

pub dominates-lower : (l m : ℕ) → T (dominates l m) → T (is_label m)
dominates-lower l m t = (above l m t).lower

pub dominates-refl : (l : ℕ) → T (is_label l) → T (dominates l l)
dominates-refl l t =
    above-dominates l l
    (record {
      upper = t;
      lower = t;
      by_level = omega arith;
      by-sizing = omega arith;
      by-fabric = omega arith;
      by-cost = omega arith;
    })

pub dominates-trans : (l m n : ℕ) → T (dominates l m) → T (dominates m n) → T (dominates l n)
dominates-trans l m n s t =
    let a : Above l m = above l m s in
    let b : Above m n = above m n t in
    above-dominates l n
    (record {
      upper = a.upper;
      lower = b.lower;
      by_level = omega arith;
      by-sizing = omega arith;
      by-fabric = omega arith;
      by-cost = omega arith;
    })

-- a label is its level and its compartments
parts : (l : ℕ) → 8 * level l + (4 * cost l + (2 * fabric l + sizing l)) ≡ l
unfolding level sizing fabric cost
parts l =
    let h : l / 4 ≡ l / 2 / 2 = omega arith in
    let k : l / 8 ≡ l / 4 / 2 = omega arith in
    omega arith

pub dominates-antisym : (l m : ℕ) → T (dominates l m) → T (dominates m l) → l ≡ m
dominates-antisym l m s t =
    let a : Above l m = above l m s in
    let b : Above m l = above m l t in
    omega (arith, parts l, parts m)

-- a label is not greater than one that dominates it
pub dominates-le : (l m : ℕ) → T (dominates l m) → m ≤ l
dominates-le l m t = let a : Above l m = above l m t in omega (arith, parts l, parts m)

-- label 31 dominates every label
pub top-label : (n : ℕ) → T (is_label n) → T (dominates 31 n)
unfolding is_label level sizing fabric cost
top-label n t =
    let h : n < 32 = label-lt n t in
    above-dominates 31 n
    (record {
      upper = tt;
      lower = t;
      by_level = omega arith;
      by-sizing = omega arith;
      by-fabric = omega arith;
      by-cost = omega arith;
    })

-- and each label dominates label 0
pub bottom-label : (n : ℕ) → T (is_label n) → T (dominates n 0)
unfolding is_label level sizing fabric cost
bottom-label n t =
    above-dominates n 0
    (record {
      upper = t;
      lower = tt;
      by_level = omega arith;
      by-sizing = omega arith;
      by-fabric = omega arith;
      by-cost = omega arith;
    })
