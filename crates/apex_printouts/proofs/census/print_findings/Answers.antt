use Rattle.std.proofs.Common.{◌≡◌, ◌<◌, ◌∙◌, length, arith, rules}
use Rattle.apex_history.proofs.Outcomes.{OnErr-always}
use Rattle.apex_printouts.specs.Censuses.{finding_line}
use Rattle.apex_printouts.proofs.Written.{line_begun, line_written}
use Rattle.apex_printouts.proofs.census.print_findings.Goals as goal

pub loop-finding-preserved : goal.loop-finding-preserved
loop-finding-preserved g c =
    let here = c.finding-item in
    let at = c.loop-finding.invariant in
    let within : c.loop-finding.finding-index < length c.args.findings.now = omega (arith, c.loop-finding-test.true) in
    let text : c.as_bytes.result.now ≡ finding_line here.result = search rules in
    record {
      lines = line_written finding_line c.args.findings.now c.loop-finding.finding-index here.result within here.is _ _ _ at.lines
          (rw text at c.in_ok-write_all.ensures.bytes);
      failures = c.in_ok-write_all.ensures.counted ∙ at.failures;
    }

pub returns-in_err-write_all-clause-err : goal.returns-in_err-write_all-clause-err
returns-in_err-write_all-clause-err g c =
    let here = c.finding-item in
    let within : c.loop-finding.finding-index < length c.args.findings.now = omega (arith, c.loop-finding-test.true) in
    let text : c.as_bytes.result.now ≡ finding_line here.result = search rules in
    OnErr-always c.from_residual.result
    (line_begun finding_line c.args.findings.now c.loop-finding.finding-index here.result within here.is _ _ _ c.loop-finding.invariant.lines
    (rw text at c.in_err-write_all.ensures.beginning))
