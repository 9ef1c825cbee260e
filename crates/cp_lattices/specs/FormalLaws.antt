-- The equations of the values of formals keep the laws of a flow.
use Rattle.std.specs.Prelude.{◌≡◌, ℕ, ℤ, zero, suc, ◌+◌, ◌<◌, ◌≤◌, ◌==◌, Bool, true, false, ◌&&◌, cond, List, length, Option, Some, None, slice_get, refl}
use Rattle.std.proofs.Common.{sym, subst, arith, inl}
use Rattle.std.proofs.lemmas.Option.{slice_get_within}
use Rattle.gimple_ir.specs.declared.options.Passes.{Passes}
use Rattle.fix_engine.specs.Least.{FlowLaws}
use Rattle.value_domain.specs.declared.abs_val.AbsVal.{AbsVal}
use Rattle.value_domain.specs.AbsOperators.{top_of}
use Rattle.value_domain.specs.Values.{none_val, abs_val_below, FitsWith, FitsAbsVal}
use Rattle.body_symbols.specs.declared.jumps.JumpFn.{JumpFn}
use Rattle.body_symbols.specs.declared.jumps.JumpFn.TheVariants.{Unknown, Const, Pass, Ancestor, Address}
use Rattle.body_values.specs.Fitting.{fits_is, is_fitting}
use Rattle.cp_lattices.specs.declared.gift.Gift.{Gift}
use Rattle.cp_lattices.specs.declared.numbering.Node.{Node}
use Rattle.cp_lattices.specs.declared.numbering.Numbering.{Numbering}
use Rattle.cp_lattices.specs.Carried.{Making}
use Rattle.cp_lattices.specs.Numbered.{node_at, is_node, place_of, node_of}
use Rattle.cp_lattices.specs.FormalEquations.{start_of, jump_source, source_of, target_of, flow_of, formal_equations, kind_in, fits_in, IsLawfulFlow}

-- ---- nodes have numbers

pub node_place : (nodes : List Node) (k : ℕ) (x : Node) → node_at nodes k ≡ Some x → k ≤ length nodes
node_place nodes zero x e = cc
node_place nodes (suc k) x e = let l = slice_get_within nodes k x e in omega (arith, l)

pub node_within : (g : Numbering) (n i : ℕ) → node_of g n i < length g.nodes + 1
unfolding node_of
node_within g n i = by (node_at g.nodes (place_of g n i)) refl
  where
    either : (b : Bool) (k count : ℕ) → k ≤ count → cond b k 0 < count + 1
    either true k count l = omega (arith, l)
    either false k count l = omega arith

    by : (o : Option Node) → node_at g.nodes (place_of g n i) ≡ o → cond (is_node n i o) (place_of g n i) 0 < length g.nodes + 1
    by None e = omega arith
    by (Some x) e = either ((x.function == n) && (x.formal == i)) (place_of g n i) (length g.nodes) (node_place g.nodes (place_of g n i) x e)

zero_within : (g : Numbering) → 0 < length g.nodes + 1
zero_within g = omega arith

jump_within : (g : Numbering) (n : ℕ) (jump : JumpFn) → jump_source g n jump < length g.nodes + 1
jump_within g n Unknown = zero_within g
jump_within g n (Const c) = zero_within g
jump_within g n (Pass i op z) = node_within g n i
jump_within g n (Ancestor i z) = node_within g n i
jump_within g n (Address x z) = zero_within g

source_within : (g : Numbering) (o : Option Gift) → source_of g o < length g.nodes + 1
source_within g None = zero_within g
source_within g (Some gift) = jump_within g gift.caller gift.jump

target_within : (g : Numbering) (o : Option Gift) → target_of g o < length g.nodes + 1
target_within g None = zero_within g
target_within g (Some gift) = node_within g gift.callee gift.formal

-- ---- values fit

none_fits : (most : ℕ) (ts : List ℤ) → FitsWith most ts none_val
none_fits most ts = inl (record { is = refl; bare = refl })

module _ (m : Making) (passes : Passes) (g : Numbering) (gifts : List Gift) (h : IsLawfulFlow m passes g gifts) where
  in_kind : (a : AbsVal) → fits_in m a → FitsAbsVal (kind_in m) a
  in_kind a e = subst (λ ts. FitsWith m.limits.size ts a) (sym h.ends) (fits_is m.limits.size m.limits.ends a e)

  of_kind : (a : AbsVal) → FitsAbsVal (kind_in m) a → fits_in m a
  of_kind a f = is_fitting m.limits.size m.limits.ends a (subst (λ ts. FitsWith m.limits.size ts a) h.ends f)

  start_fits : (o : Option Node) → FitsAbsVal (kind_in m) (start_of o)
  start_fits None = none_fits _ _
  start_fits (Some x) = by x.addressed
    where
      by : (b : Bool) → FitsAbsVal (kind_in m) (cond b (top_of x.scalar) none_val)
      by true = in_kind (top_of x.scalar) (h.tops x.scalar)
      by false = none_fits _ _

  flow_fits : (e : ℕ) (o : Option Gift) (a : AbsVal) → slice_get gifts e ≡ o → FitsAbsVal (kind_in m) a → FitsAbsVal (kind_in m) (flow_of m passes o a)
  flow_fits e None a is f = none_fits _ _
  flow_fits e (Some gift) a is f = in_kind (flow_of m passes (Some gift) a) (h.fit e gift a is (of_kind a f))

  flow_rises : (e : ℕ) (o : Option Gift) (a b : AbsVal) → slice_get gifts e ≡ o → FitsAbsVal (kind_in m) a → FitsAbsVal (kind_in m) b → abs_val_below a b ≡ true → abs_val_below (flow_of m passes o a) (flow_of m passes o b) ≡ true
  flow_rises e None a b is f k l = refl
  flow_rises e (Some gift) a b is f k l = h.rises e gift a b is (of_kind a f) (of_kind b k) l

  pub flow_laws : FlowLaws (FitsAbsVal (kind_in m)) abs_val_below (formal_equations m passes g gifts)
  flow_laws = record {
    sources = λ e l. source_within g (slice_get gifts e);
    targets = λ e l. target_within g (slice_get gifts e);
    starts_fit = λ n l. start_fits (node_at g.nodes n);
    flows_fit = λ e a l f. flow_fits e (slice_get gifts e) a refl f;
    monotone = λ e a b l f k r. flow_rises e (slice_get gifts e) a b refl f k r;
  }

-- what a value and what is known of an argument owe to the flow
pub kind_fits : (m : Making) (passes : Passes) (g : Numbering) (gifts : List Gift) (a : AbsVal) → IsLawfulFlow m passes g gifts → FitsAbsVal (kind_in m) a → FitsWith m.limits.size m.limits.ends a
kind_fits m passes g gifts a h f = subst (λ ts. FitsWith m.limits.size ts a) h.ends f

pub local_fits : (m : Making) (passes : Passes) (g : Numbering) (gifts : List Gift) (e : ℕ) (gift : Gift) → IsLawfulFlow m passes g gifts → slice_get gifts e ≡ Some gift → FitsWith m.limits.size m.limits.ends gift.local
local_fits m passes g gifts e gift h is = fits_is m.limits.size m.limits.ends gift.local (h.locals e gift is)
