-- The values of formals fit.
use Rattle.std.proofs.Common.{◌≡◌, [], length, slice_index_or, arith}
use Rattle.value_domain.specs.Thresholds.{thresholds_list}
use Rattle.value_domain.specs.Values.{FitsWith}
use Rattle.cp_lattices.specs.LatticeClaims.{LatticesFit}
use Rattle.cp_lattices.proofs.OwnNumbers.{register_at, each_by}

pub lattices_fit : LatticesFit
lattices_fit p passes most rows h n f own =
    let solves = h.least.solves in
    let count : length (slice_index_or rows n []) ≡ length f.params = solves.are_rows.counts n f own in
    record {
      count = count;
      formals = each_by (FitsWith most (thresholds_list p.program)) (slice_index_or rows n []) (λ i l.
          let r = register_at f.params i (omega (arith, l, count)) in
          (solves.good n i f r.0 (record { own = own; declared = r.1 })).fits);
      loads = tt;
    }
