use Rattle.p4all_top.proofs.SourceLaws.{IsParsed, few_parsed, refused_tree, refused_program, only_program}
use Rattle.p4all_top.proofs.parsing.program_of.Goals as goal

pub returns-in-Err-parse : goal.returns-in-Err-parse
returns-in-Err-parse c =
    refused_tree c.args.text.now c.in-Ok.tokens c.as_slice.result.now c.in-Err-parse.error c.in_ok-refused_by_parser-in-Err-parse.field-0 c.in-Ok.ensures.tokens c.as_slice.ensures c.in-Err-parse.ensures.only c.in-Err-parse.ensures.named c.in-Err-parse.ensures.deep
    c.in_ok-refused_by_parser-in-Err-parse.ensures

pub returns-in-Ok-check : goal.returns-in-Ok-check
returns-in-Ok-check c =
    let read : IsParsed c.args.text.now c.in-Ok.tokens c.as_slice.result.now c.in-Ok-parse.parsed =
    record { of = c.in-Ok.ensures.tokens; same = c.as_slice.ensures; only = c.in-Ok-parse.ensures.only; spelled = c.in-Ok-parse.ensures.spelled; few = c.in-Ok-parse.ensures.operators } in
    only_program c.args.text.now c.in-Ok.tokens c.as_slice.result.now c.in-Ok-parse.parsed c.in-Ok-check.checked read c.in-Ok-check.ensures.same c.in-Ok-check.ensures.typed

pub returns : goal.returns
returns c =
    let read : IsParsed c.args.text.now c.in-Ok.tokens c.as_slice.result.now c.in-Ok-parse.parsed =
    record { of = c.in-Ok.ensures.tokens; same = c.as_slice.ensures; only = c.in-Ok-parse.ensures.only; spelled = c.in-Ok-parse.ensures.spelled; few = c.in-Ok-parse.ensures.operators } in
    refused_program c.args.text.now c.in-Ok.tokens c.as_slice.result.now c.in-Ok-parse.parsed c.in-Err-check.error c.in_ok-refused_by_check-in-Err-check.field-0 read c.in-Err-check.ensures.broken c.in_ok-refused_by_check-in-Err-check.ensures

pub check-requires : goal.check-requires
check-requires c =
    let read : IsParsed c.args.text.now c.in-Ok.tokens c.as_slice.result.now c.in-Ok-parse.parsed =
    record { of = c.in-Ok.ensures.tokens; same = c.as_slice.ensures; only = c.in-Ok-parse.ensures.only; spelled = c.in-Ok-parse.ensures.spelled; few = c.in-Ok-parse.ensures.operators } in
    few_parsed c.args.text.now c.in-Ok.tokens c.as_slice.result.now c.in-Ok-parse.parsed read c.requires c.in-Ok.ensures.few
