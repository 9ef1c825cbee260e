-- The equations of the values of formals: a node is a formal, an edge is a gift.
use Rattle.std.specs.Prelude.{◌≡◌, ℕ, ◌+◌, ◌^◌, ◌<◌, true, if◌then◌else◌, List, length, Option, Some, None, slice_get}
use Rattle.gimple_ir.specs.declared.options.Passes.{Passes}
use Rattle.gimple_ir.specs.declared.scalar.Scalar.{Scalar}
use Rattle.fix_engine.specs.Least.{Equations, IsLeast}
use Rattle.value_domain.specs.declared.abs_val.AbsVal.{AbsVal}
use Rattle.value_domain.specs.AbsOperators.{top_of}
use Rattle.value_domain.specs.Values.{none_val, abs_val_below, kind_of, thresholds_in, FitsAbsVal}
use Rattle.body_symbols.specs.declared.jumps.JumpFn.{JumpFn}
use Rattle.body_symbols.specs.declared.jumps.JumpFn.TheVariants.{Unknown, Const, Pass, Ancestor, Address}
use Rattle.body_values.specs.Fitting.{fits_by}
use Rattle.cp_lattices.specs.declared.gift.Gift.{Gift}
use Rattle.cp_lattices.specs.declared.numbering.Node.{Node}
use Rattle.cp_lattices.specs.declared.numbering.Numbering.{Numbering}
use Rattle.cp_lattices.specs.Carried.{Making, given}
use Rattle.cp_lattices.specs.Numbered.{node_at, node_of}

-- a formal of a function whose address is taken starts at any value
abbrev pub start_of : Option Node → AbsVal
start_of None = none_val
start_of (Some x) = if x.addressed then top_of x.scalar else none_val

-- the node of the caller's formal that a jump function speaks of
abbrev pub jump_source : Numbering → ℕ → JumpFn → ℕ
jump_source g n Unknown = 0
jump_source g n (Const c) = 0
jump_source g n (Pass i op z) = node_of g n i
jump_source g n (Ancestor i z) = node_of g n i
jump_source g n (Address x z) = 0

abbrev pub source_of : Numbering → Option Gift → ℕ
source_of g None = 0
source_of g (Some gift) = jump_source g gift.caller gift.jump

abbrev pub target_of : Numbering → Option Gift → ℕ
target_of g None = 0
target_of g (Some gift) = node_of g gift.callee gift.formal

abbrev pub flow_of : Making → Passes → Option Gift → AbsVal → AbsVal
flow_of m passes None a = none_val
flow_of m passes (Some gift) a = given m passes gift.scalar gift.jump gift.local a

abbrev pub formal_equations : Making → Passes → Numbering → List Gift → Equations AbsVal
formal_equations m passes g gifts = record {
  nodes = length g.nodes + 1;
  edges = length gifts;
  source = λ e. source_of g (slice_get gifts e);
  target = λ e. target_of g (slice_get gifts e);
  start = λ n. start_of (node_at g.nodes n);
  flow = λ e a. flow_of m passes (slice_get gifts e) a;
}

abbrev pub kind_in : Making → List ℕ
kind_in m = kind_of m.limits.size m.limits.ends

-- the least solution
abbrev pub AreLeast : Making → Passes → Numbering → List Gift → List AbsVal → Type 0
AreLeast m passes g gifts xs = IsLeast (FitsAbsVal (kind_in m)) abs_val_below (formal_equations m passes g gifts) xs

-- a value fits, as a test
abbrev pub fits_in : Making → AbsVal → Type 0
fits_in m a = fits_by m.limits.size m.limits.ends a ≡ true

-- What makes it a flow, in tests alone: the kind gives back the thresholds, there are few nodes and edges, tops fit, and what a
-- gift gives fits and rises.
pub record IsLawfulFlow (m : Making) (passes : Passes) (g : Numbering) (gifts : List Gift) : Type 0 where
  pub ends : thresholds_in (kind_in m) ≡ m.limits.ends
  pub nodes : length g.nodes + 1 < 2 ^ 32
  pub edges : length gifts < 2 ^ 32
  pub tops : (scalar : Scalar) → fits_in m (top_of scalar)
  pub locals : (e : ℕ) (gift : Gift) → slice_get gifts e ≡ Some gift → fits_in m gift.local
  pub fit : (e : ℕ) (gift : Gift) (a : AbsVal) → slice_get gifts e ≡ Some gift → fits_in m a → fits_in m (flow_of m passes (Some gift) a)
  pub rises : (e : ℕ) (gift : Gift) (a b : AbsVal) → slice_get gifts e ≡ Some gift → fits_in m a → fits_in m b → abs_val_below a b ≡ true → abs_val_below (flow_of m passes (Some gift) a) (flow_of m passes (Some gift) b) ≡ true
