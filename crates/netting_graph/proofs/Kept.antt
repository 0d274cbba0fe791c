-- A cut and its net have the same lawful set-offs, totals and bounds.
use Rattle.std.specs.Prelude.{slice_index, ℤ}
use Rattle.std.proofs.Common.{◌≡◌, ℕ, List, length, sym, ◌∙◌, ap, arith}
use Rattle.std.proofs.lemmas.List.{length-map}
use Rattle.setoff_model.specs.declared.cut.Party.{Party}
use Rattle.setoff_model.specs.Setoff.{IsLawful, IsGreatest, InWindow, inflow, outflow, total_of, bound_of, parties_bound}
use Rattle.setoff_model.specs.CutView.{CutView, obligations, spends, rooms}
use Rattle.setoff_model.proofs.Columns.{claims_long}
use Rattle.netting_graph.specs.NetView.{NetView, obligations_of_net}
use Rattle.netting_graph.specs.Merging.{IsNetOf, IsSpread, merged}
use Rattle.netting_graph.specs.MergingLaw.{MergedLaw, SpreadLaw, BoundLaw}
use Rattle.netting_graph.proofs.Columns.{same_total, same_inflow, same_outflow, same_claims_bound, sum_on_arc-le, net_merged, arcs_long, merged_sums, spread_sums}

-- ---- discharges, merged

merged_long : (cut : CutView) (net : NetView) (d : List ℕ) → length (merged cut net d) ≡ length (obligations_of_net net).amounts
merged_long cut net d = length-map net.arcs _ ∙ sym (arcs_long net)

merged_total : (cut : CutView) (net : NetView) (d : List ℕ) → IsNetOf cut net → IsLawful (obligations cut) d
    → total_of (merged cut net d) ≡ total_of d
merged_total cut net d is lawful =
    same_total (obligations cut) (obligations_of_net net) d (merged cut net d) (net_merged cut net is)
    (merged_sums cut net d) lawful.one_each (merged_long cut net d)

merged_inflow : (cut : CutView) (net : NetView) (d : List ℕ) (f : ℕ) → IsNetOf cut net
    → inflow (obligations_of_net net) (merged cut net d) f ≡ inflow (obligations cut) d f
merged_inflow cut net d f is =
    same_inflow (obligations cut) (obligations_of_net net) d (merged cut net d) f (net_merged cut net is) (merged_sums cut net d)

merged_outflow : (cut : CutView) (net : NetView) (d : List ℕ) (f : ℕ) → IsNetOf cut net
    → outflow (obligations_of_net net) (merged cut net d) f ≡ outflow (obligations cut) d f
merged_outflow cut net d f is =
    same_outflow (obligations cut) (obligations_of_net net) d (merged cut net d) f (net_merged cut net is) (merged_sums cut net d)

-- the windows are those of the cut's parties
same_spends : (cut : CutView) (net : NetView) → IsNetOf cut net → spends net.parties ≡ spends cut.parties
same_spends cut net is = ap (λ (ps : List Party). spends ps) is.parties

same_rooms : (cut : CutView) (net : NetView) → IsNetOf cut net → rooms net.parties ≡ rooms cut.parties
same_rooms cut net is = ap (λ (ps : List Party). rooms ps) is.parties

-- flows of one size are in the same windows
same_window : (cut : CutView) (net : NetView) (f i o i' o' : ℕ) → IsNetOf cut net → i ≡ i' → o ≡ o' →
    InWindow i o (slice_index (spends cut.parties) f) (slice_index (rooms cut.parties) f)
    → InWindow i' o' (slice_index (spends net.parties) f) (slice_index (rooms net.parties) f)
same_window cut net f i o i' o' is ei eo within =
    let s = ap (λ (xs : List ℕ). slice_index xs f) (same_spends cut net is) in
    let r = ap (λ (xs : List ℕ). slice_index xs f) (same_rooms cut net is) in
    record { room_kept = omega (arith, within.room_kept); spend_kept = omega (arith, within.spend_kept) }

same_window_back : (cut : CutView) (net : NetView) (f i o i' o' : ℕ) → IsNetOf cut net → i ≡ i' → o ≡ o' →
    InWindow i o (slice_index (spends net.parties) f) (slice_index (rooms net.parties) f)
    → InWindow i' o' (slice_index (spends cut.parties) f) (slice_index (rooms cut.parties) f)
same_window_back cut net f i o i' o' is ei eo within =
    let s = ap (λ (xs : List ℕ). slice_index xs f) (same_spends cut net is) in
    let r = ap (λ (xs : List ℕ). slice_index xs f) (same_rooms cut net is) in
    record { room_kept = omega (arith, within.room_kept); spend_kept = omega (arith, within.spend_kept) }

merged_lawful : (cut : CutView) (net : NetView) (d : List ℕ) → IsNetOf cut net → IsLawful (obligations cut) d
    → IsLawful (obligations_of_net net) (merged cut net d)
merged_lawful cut net d is lawful = record {
  one_each = merged_long cut net d;
  within = λ a l. omega (
    arith,
    merged_sums cut net d a l,
    (net_merged cut net is).amount a l,
    sum_on_arc-le (obligations cut) (obligations_of_net net) d (obligations cut).amounts a lawful.within,
  );
  windows = λ f l. same_window cut net f _ _ _ _ is (sym (merged_inflow cut net d f is))
      (sym (merged_outflow cut net d f is)) (lawful.windows f (omega (arith, ap (λ (xs : List ℕ). length xs) (same_spends cut net is))));
}

pub merged_law : MergedLaw
merged_law = record { total = merged_total; inflow = merged_inflow; outflow = merged_outflow; lawful = merged_lawful }

-- ---- a flow, spread

spread_long : (cut : CutView) (net : NetView) (flows d : List ℕ) → IsSpread cut net flows d → length d ≡ length (obligations cut).amounts
spread_long cut net flows d spread = spread.one_each ∙ sym (claims_long cut)

spread_total : (cut : CutView) (net : NetView) (flows d : List ℕ) → IsNetOf cut net → length flows ≡ length net.arcs
    → IsSpread cut net flows d → total_of d ≡ total_of flows
spread_total cut net flows d is long spread =
    sym (same_total (obligations cut) (obligations_of_net net) d flows (net_merged cut net is)
    (spread_sums cut net flows d spread) (spread_long cut net flows d spread) (long ∙ sym (arcs_long net)))

spread_inflow : (cut : CutView) (net : NetView) (flows d : List ℕ) (f : ℕ) → IsNetOf cut net → IsSpread cut net flows d
    → inflow (obligations cut) d f ≡ inflow (obligations_of_net net) flows f
spread_inflow cut net flows d f is spread =
    sym (same_inflow (obligations cut) (obligations_of_net net) d flows f (net_merged cut net is) (spread_sums cut net flows d spread))

spread_outflow : (cut : CutView) (net : NetView) (flows d : List ℕ) (f : ℕ) → IsNetOf cut net → IsSpread cut net flows d
    → outflow (obligations cut) d f ≡ outflow (obligations_of_net net) flows f
spread_outflow cut net flows d f is spread =
    sym (same_outflow (obligations cut) (obligations_of_net net) d flows f (net_merged cut net is) (spread_sums cut net flows d spread))

spread_lawful : (cut : CutView) (net : NetView) (flows d : List ℕ) → IsNetOf cut net
    → IsLawful (obligations_of_net net) flows → IsSpread cut net flows d → IsLawful (obligations cut) d
spread_lawful cut net flows d is lawful spread = record {
  one_each = spread_long cut net flows d spread;
  within = λ c l. spread.within c (omega (arith, claims_long cut));
  windows = λ f l. same_window_back cut net f _ _ _ _ is (sym (spread_inflow cut net flows d f is spread))
      (sym (spread_outflow cut net flows d f is spread))
      (lawful.windows f (omega (arith, ap (λ (xs : List ℕ). length xs) (same_spends cut net is))));
}

pub spread_law : SpreadLaw
spread_law = record { total = spread_total; inflow = spread_inflow; outflow = spread_outflow; lawful = spread_lawful }

-- ---- bounds

same_bound : (cut : CutView) (net : NetView) (p : List ℤ) → IsNetOf cut net
    → bound_of (obligations_of_net net) p ≡ bound_of (obligations cut) p
same_bound cut net p is =
    let claims = same_claims_bound (obligations cut) (obligations_of_net net) p (net_merged cut net is) in
    let parties : parties_bound (length (spends net.parties)) (spends net.parties) (rooms net.parties) p
    ≡ parties_bound (length (spends cut.parties)) (spends cut.parties) (rooms cut.parties) p =
    ap (λ (ps : List Party). parties_bound (length (spends ps)) (spends ps) (rooms ps) p) is.parties in
    omega (arith, claims, parties)

tight : (cut : CutView) (net : NetView) (flows d : List ℕ) (p : List ℤ) → IsNetOf cut net → length flows ≡ length net.arcs
    → IsSpread cut net flows d → total_of flows ≡ bound_of (obligations_of_net net) p → total_of d ≡ bound_of (obligations cut) p
tight cut net flows d p is long spread e = spread_total cut net flows d is long spread ∙ e ∙ same_bound cut net p is

greatest : (cut : CutView) (net : NetView) (flows d : List ℕ) → IsNetOf cut net → IsSpread cut net flows d
    → IsGreatest (obligations_of_net net) flows → IsGreatest (obligations cut) d
greatest cut net flows d is spread best =
    let long : length flows ≡ length net.arcs = best.lawful.one_each ∙ arcs_long net in
    record {
      lawful = spread_lawful cut net flows d is best.lawful spread;
      most = λ e other. omega (
        arith,
        spread_total cut net flows d is long spread,
        merged_total cut net e is other,
        best.most (merged cut net e) (merged_lawful cut net e is other),
      );
    }

pub bound_law : BoundLaw
bound_law = record { bound = same_bound; tight = tight; greatest = greatest }
