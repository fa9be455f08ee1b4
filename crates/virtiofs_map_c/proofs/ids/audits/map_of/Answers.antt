use Rattle.std.proofs.lemmas.Result.{err_from_is_err_and}
use Rattle.virtiofs_map.specs.Build.{build_fault_of}
use Rattle.virtiofs_map_c.proofs.ArraysLemmas.{refused_build}
use Rattle.virtiofs_map_c.proofs.ids.audits.map_of.Goals as goal

pub returns-in_err-map-clause-refused : goal.returns-in_err-map-clause-refused
returns-in_err-map-clause-refused c =
    let (told, is, numbers) = err_from_is_err_and c.from_residual-in_err-map.result c.from_residual-in_err-map.ensures.1 in
    rw is (refused_build _ _ (build_fault_of c.in_err-map.field-0.0) told c.in_ok-list.ensures.read
    c.in_err-map.ensures.refused numbers)
