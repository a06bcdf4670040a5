pub mod MeetingLaws
