pub mod Serving
pub use Rattle.batch_runs.specs.act_bodies as act_bodies
pub use Rattle.batch_runs as batch_runs
pub use Rattle.batch_runs.specs.bureau_desk as bureau_desk
pub use Rattle.batch_runs.specs.claim_history as claim_history
pub use Rattle.batch_runs.specs.disk_witness as disk_witness
pub use Rattle.batch_runs.specs.fault_count as fault_count
pub use Rattle.live_intake.specs.input_front as input_front
pub use Rattle.batch_runs.specs.journal_replay as journal_replay
pub use Rattle.live_intake.specs.live_reading as live_reading
pub use Rattle.batch_runs.specs.printed_text as printed_text
pub use Rattle.batch_runs.specs.recorded_book as recorded_book
pub use Rattle.batch_runs.specs.round_journal as round_journal
pub use Rattle.batch_runs.specs.served_lines as served_lines
pub use Rattle.batch_runs.specs.statement_text as statement_text
