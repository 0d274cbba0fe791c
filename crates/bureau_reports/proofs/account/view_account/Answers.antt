use Rattle.bureau_reports.proofs.account.view_account.Goals as goal

pub returns-in-Err-clause-err : goal.returns-in-Err-clause-err
returns-in-Err-clause-err g c =
    c.replay_cause.ensures (g.D.Disk.seen c.args.disk.now).tells (g.D.Disk.seen c.args.disk.now).reads (g.D.Disk.seen c.args.disk.now).count (g.D.Disk.seen c.records_of.new.disk).count
    (c.in_ok-records.records.items, c.in_ok-records.ensures.found, c.in-Err.ensures.stopped)
