use Rattle.std.proofs.Common.{◌≡◌, ◌+◌, Some, None, take, drop, sym, ap, ◌∙◌, arith, position, take_all}
use Rattle.std.proofs.lemmas.List.{take_rest, drop_all}
use Rattle.virtiofs_map.proofs.xattrmap.FirstNameLemmas.{no_zero_left, zero_at}
use Rattle.virtiofs_map.proofs.ServerListLemmas.{is_zero, position-Some_is, position-None_is}
use Rattle.virtiofs_map.proofs.xattrmap.listed.cut_name.Goals as goal

pub returns-in-Some-clause-name : goal.returns-in-Some-clause-name
returns-in-Some-clause-name c = λ none.
    (let list = c.args.list.now in
    let behind = drop c.args.passed list in
    let place : Some c.in-Some.further ≡ position is_zero behind = c.in-Some.ensures
    ∙ ap (position is_zero) (take_rest list c.args.passed) in
    ap (λ n. take n list) (zero_at list c.args.passed c.requires none c.in-Some.further
    (position-Some_is is_zero behind c.in-Some.further place).0))

pub returns-in-Some-clause-rest : goal.returns-in-Some-clause-rest
returns-in-Some-clause-rest c = λ none.
    (let list = c.args.list.now in
    let behind = drop c.args.passed list in
    let place : Some c.in-Some.further ≡ position is_zero behind = c.in-Some.ensures
    ∙ ap (position is_zero) (take_rest list c.args.passed) in
    take_rest list (c.args.passed + c.in-Some.further + 1)
    ∙ ap (λ n. drop (n + 1) list) (zero_at list c.args.passed c.requires none c.in-Some.further
    (position-Some_is is_zero behind c.in-Some.further place).0))

pub returns-in-None-clause-name : goal.returns-in-None-clause-name
returns-in-None-clause-name c = λ none.
    (let list = c.args.list.now in
    let behind = drop c.args.passed list in
    let place : None ≡ position is_zero behind = c.in-None.ensures
    ∙ ap (position is_zero) (take_rest list c.args.passed) in
    sym (take_all _ list (no_zero_left list c.args.passed c.requires none (position-None_is is_zero behind place))))

pub returns-in-None-clause-rest : goal.returns-in-None-clause-rest
returns-in-None-clause-rest c = λ none.
    (let list = c.args.list.now in
    let behind = drop c.args.passed list in
    let place : None ≡ position is_zero behind = c.in-None.ensures
    ∙ ap (position is_zero) (take_rest list c.args.passed) in
    let past = no_zero_left list c.args.passed c.requires none (position-None_is is_zero behind place) in
    sym (drop_all _ list (omega (arith, past))))
