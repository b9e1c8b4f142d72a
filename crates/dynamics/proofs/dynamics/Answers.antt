-- `dynamics::dynamics` meets its contract: each bin's products are ranked right behind those of the bin before. Assumes nothing.
use borrow.Author.Rules.{rules}
use native.Mathlib.Omega.{arith}
use Rattle.dynamics.proofs.Three.{speed_lanes, room_urban, behind_urban, behind_rural, room_rural, room_motorway, all_figures, all_ranked}
use Rattle.dynamics.proofs.dynamics.Goals as goal

pub returns : goal.returns
returns c =
    let u = c.bin_dynamics-urban.ensures in
    let r = c.bin_dynamics-rural.ensures in
    let m = c.bin_dynamics-motorway.ensures in
    (all_figures _ _ _ c.requires u.0 u.1 r.0 r.1 m.0 m.1, all_ranked _ _ _ c.requires u.0 u.1 r.0 r.1 m.0 m.1)

pub bin_dynamics-urban-requires : goal.bin_dynamics-urban-requires
bin_dynamics-urban-requires c =
    record { speed_lanes = speed_lanes _ _ _ c.requires; room = room_urban _ _ _ c.requires }

pub bin_dynamics-rural-requires : goal.bin_dynamics-rural-requires
bin_dynamics-rural-requires c =
    let u = c.bin_dynamics-urban.ensures in
    record { speed_lanes = speed_lanes _ _ _ c.requires; room = room_rural _ _ _ c.requires u.0 u.1 }

pub bin_dynamics-motorway-requires : goal.bin_dynamics-motorway-requires
bin_dynamics-motorway-requires c =
    let u = c.bin_dynamics-urban.ensures in
    let r = c.bin_dynamics-rural.ensures in
    record { speed_lanes = speed_lanes _ _ _ c.requires; room = room_motorway _ _ _ c.requires u.0 u.1 r.0 r.1 }

pub slice_bounds-bin_dynamics-count : goal.slice_bounds-bin_dynamics-count
slice_bounds-bin_dynamics-count c =
    let u = c.bin_dynamics-urban.ensures in
    omega (arith, behind_urban _ _ _ c.requires u.0 u.1)

pub slice_bounds-bin_dynamics-start : goal.slice_bounds-bin_dynamics-start
slice_bounds-bin_dynamics-start c =
    let u = c.bin_dynamics-urban.ensures in
    let behind = behind_urban _ _ _ c.requires u.0 u.1 in
    search rules

pub slice_bounds-bin_dynamics-count-2 : goal.slice_bounds-bin_dynamics-count-2
slice_bounds-bin_dynamics-count-2 c =
    let u = c.bin_dynamics-urban.ensures in
    let r = c.bin_dynamics-rural.ensures in
    omega (arith, behind_rural _ _ _ c.requires u.0 u.1 r.0 r.1)

pub slice_bounds-bin_dynamics-start-2 : goal.slice_bounds-bin_dynamics-start-2
slice_bounds-bin_dynamics-start-2 c =
    let u = c.bin_dynamics-urban.ensures in
    let r = c.bin_dynamics-rural.ensures in
    let behind = behind_rural _ _ _ c.requires u.0 u.1 r.0 r.1 in
    search rules
