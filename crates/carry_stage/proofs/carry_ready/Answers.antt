-- The spans are gathered before the homes are listed, and the places stay. Assumes nothing.
use Rattle.carry_stage.proofs.Ready.{stay_few, carry_made}
use Rattle.carry_stage.proofs.carry_ready.Goals as goal

pub find_homes-homes-requires : goal.find_homes-homes-requires
find_homes-homes-requires c =
    let pre = c.requires in
    let args = c.args in
    let kept-count = c.kept_count-stay in
    (pre.0.read.compiled.named, pre.0.read.assembled, stay_few args.stage.inputs.order args.compiled.now args.flag _ kept-count.ensures, pre.2)

pub returns : goal.returns
returns c =
    let args = c.args in
    let kept-count = c.kept_count-stay in
    let text-spans = c.text_spans-spans in
    let find-homes = c.find_homes-homes in
    carry_made args.compiled.now args.assembled.now args.file.now args.stage args.flag _ args.places.now _ args.index.now _
    kept-count.ensures text-spans.ensures find-homes.ensures
