use Rattle.std.proofs.Common.{ap, ap₂, ◌∙◌}
use Rattle.clap.specs.Simple.{app_of_fields}
use Rattle.clap.specs.Words.{with_rule}
use Rattle.words.proofs.command.Goals as goal

pub returns : goal.returns
returns c =
    let first = c.in_ok-with_schedule.ensures.shape c.schedule_arg.ensures.local ∙ ap₂ with_rule c.new.ensures.app c.schedule_arg.ensures.rule in
    let second = c.in_ok-with_threads.ensures.shape c.threads_arg.ensures.local ∙ ap₂ with_rule first c.threads_arg.ensures.rule in
    let ways = c.in_ok-with_stream.ensures.shape c.stream_arg.ensures.local ∙ ap₂ with_rule second c.stream_arg.ensures.rule in
    let third = c.in_ok-with_limit.ensures.shape c.limit_arg.ensures.local ∙ ap₂ with_rule ways c.limit_arg.ensures.rule in
    let fourth = c.in_ok-with_file_limit.ensures.shape c.file_limit_arg.ensures.local ∙ ap₂ with_rule third c.file_limit_arg.ensures.rule in
    let open_files = c.in_ok-with_descriptors.ensures.shape c.descriptors_arg.ensures.local ∙ ap₂ with_rule fourth c.descriptors_arg.ensures.rule in
    let paths = c.in_ok-with_path_limit.ensures.shape c.path_limit_arg.ensures.local ∙ ap₂ with_rule open_files c.path_limit_arg.ensures.rule in
    let fifth = c.in_ok-with_check.ensures.shape c.check_arg.ensures.local ∙ ap₂ with_rule paths c.check_arg.ensures.rule in
    let stored = c.in_ok-with_store.ensures.shape c.store_arg.ensures.local ∙ ap₂ with_rule fifth c.store_arg.ensures.rule in
    let synced = c.in_ok-with_sync.ensures.shape c.sync_arg.ensures.local ∙ ap₂ with_rule stored c.sync_arg.ensures.rule in
    let sixth = c.in_ok-with_file.ensures.shape c.file_arg.ensures.local ∙ ap₂ with_rule synced c.file_arg.ensures.rule in
    ap app_of_fields c.after_help.ensures ∙ ap app_of_fields c.about.ensures ∙ ap app_of_fields c.override_usage.ensures ∙ sixth
