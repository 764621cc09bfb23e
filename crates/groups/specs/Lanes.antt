-- The orders of sixteen lanes as a group, and which lists of lanes are refused.
use Rattle.std.specs.Prelude.{◌≡◌, ℕ, zero, suc, ◌%◌, ◌<◌, ◌⊎◌, List, map, length, replicate, Ok, Err, Result, slice_index, slice_index_or, slice_set}
use Rattle.std.specs.List.{range_with_len}
use Rattle.faults.specs.declared.Layer.TheVariants.{Group}
use Rattle.groups.specs.declared.fault.Fault.{Fault}
use Rattle.groups.specs.declared.lanes.LaneOrder.{LaneOrder}
use Rattle.groups.specs.Faults.{report_of}

-- the order that has these lanes
abbrev pub of_lanes : List ℕ → LaneOrder
of_lanes p = record { lanes = p }

-- lane j stands at place i of p, and at no other
pub record OnlyPlace (p : List ℕ) (j i : ℕ) : Type 0 where
  pub within : i < 16
  pub here : slice_index_or p i 0 ≡ j
  pub alone : (k : ℕ) → k < 16 → slice_index p k ≡ j → k ≡ i

-- sixteen lanes, each of 0 to 15 exactly once
pub record Arranged (p : List ℕ) : Type 0 where
  pub size : length p ≡ 16
  pub below : (i : ℕ) → i < 16 → slice_index p i < 16
  pub once : (j : ℕ) → j < 16 → ((i : ℕ) × OnlyPlace p j i)

abbrev pub LaneElement : LaneOrder → Type 0
LaneElement p = Arranged p.lanes

abbrev pub lane_one : LaneOrder
lane_one = of_lanes (range_with_len 0 16)

-- lane i takes p at q(i), where a number above 15 stands for its remainder by 16
unfoldable pub after : List ℕ → List ℕ → List ℕ
after p q = map (λ i. slice_index p (slice_index q i % 16)) (range_with_len 0 16)

abbrev pub lane_times : LaneOrder → LaneOrder → LaneOrder
lane_times p q = of_lanes (after p.lanes q.lanes)

-- lane p(i) takes i, for each i below n
unfoldable pub back : List ℕ → ℕ → List ℕ
back p zero = replicate 16 0
back p (suc n) = slice_set (back p n) (slice_index p n % 16) n

abbrev pub lane_inv : LaneOrder → LaneOrder
lane_inv p = of_lanes (back p.lanes 16)

-- the lane at i stands at an earlier index too
abbrev pub MetBefore : List ℕ → ℕ → Type 0
MetBefore p i = (k : ℕ) × (k < i) × (slice_index p k ≡ slice_index p i)

-- the lane at i is above 15 or was met before
abbrev pub Misfit : List ℕ → ℕ → Type 0
Misfit p i = (15 < slice_index p i) ⊎ MetBefore p i

-- i is the first index whose lane is a misfit
pub record FirstMisfit (p : List ℕ) (i : ℕ) : Type 0 where
  pub within : i < 16
  pub misfit : Misfit p i
  pub before : (k : ℕ) → k < i → Misfit p k → ⊥

-- making a lane order: an element with these lanes if none is a misfit, else refused by 5 at the first
abbrev pub Made : List ℕ → Result LaneOrder Fault → Type 0
Made p (Ok order) = (order ≡ of_lanes p) × LaneElement order × ((k : ℕ) → k < 16 → Misfit p k → ⊥)
Made p (Err fault) = (i : ℕ) × FirstMisfit p i × (report_of fault ≡ record { layer = Group; number = 5; place = i })
